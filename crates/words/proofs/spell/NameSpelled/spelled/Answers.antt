use Rattle.std.proofs.Common.{◌≡◌, codes, refl, rules}
use Rattle.std.proofs.lemmas.Slice.Eq.{text_from_reads}
use Rattle.words.proofs.spell.NameSpelled.spelled.Goals as goal

pub returns-in-withdraw : goal.returns-in-withdraw
returns-in-withdraw c = let e : c.args.text.now ≡ codes "withdraw" = search (rules, text_from_reads) in rw e refl

pub returns-in-arrive : goal.returns-in-arrive
returns-in-arrive c = let e : c.args.text.now ≡ codes "arrive" = search (rules, text_from_reads) in rw e refl

pub returns-in-repeat : goal.returns-in-repeat
returns-in-repeat c = let e : c.args.text.now ≡ codes "repeat" = search (rules, text_from_reads) in rw e refl

pub returns-in-deliver : goal.returns-in-deliver
returns-in-deliver c = let e : c.args.text.now ≡ codes "deliver" = search (rules, text_from_reads) in rw e refl
