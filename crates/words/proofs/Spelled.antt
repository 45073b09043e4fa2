-- What a word says is written as that word, and as no other.
use Rattle.std.proofs.Common.{◌≡◌, ℕ, ◌<◌, ◌≤◌, List, [], ◌∷◌, Some, codes, decimal, Option, arith}
use Rattle.std.proofs.lemmas.Bool.Decides.{nat_tests}
use Rattle.std.proofs.lemmas.Slice.Eq.{bytes_eq-Decides}
use Rattle.words.proofs.Figures.{decimal_unspaced, number_back, number_only}
use Rattle.words.specs.Parted.{Unspaced}
use Rattle.words.specs.Spelling.{end_of, letter_of, name_of, number_of}
use Rattle.words.specs.Written.{end_text}
use Rattle.words.specs.declared.command.Name.{Name}

-- what can be written is written without a space, and reads as itself; what is read can be written
pub record Spells {T : Type 0} (says : List ℕ → Option T) (Can : T → Type 0) (text : T → List ℕ) : Type 0 where
  pub plain : (x : T) → Can x → Unspaced (text x)
  pub back : (x : T) → Can x → says (text x) ≡ Some x
  pub only : (w : List ℕ) (x : T) → says w ≡ Some x → Can x × (w ≡ text x)

abbrev pub Any : {T : Type 0} → T → Type 0
Any x = Unit {0}

abbrev pub name_text : Name → List ℕ
name_text Name.Ask = codes "ask"
name_text Name.Withdraw = codes "withdraw"
name_text Name.Show = codes "show"
name_text Name.Enter = codes "enter"
name_text Name.Form = codes "form"
name_text Name.Arrive = codes "arrive"
name_text Name.Repeat = codes "repeat"
name_text Name.Deliver = codes "deliver"
name_text Name.Fade = codes "fade"

pub names : Spells name_of Any name_text
names = record { plain = λ n t. grind arith; back = λ n t. grind arith; only = λ w n h. grind (arith, bytes_eq-Decides) }

pub numbers : Spells number_of (λ n. n < 100000) decimal
numbers = record { plain = decimal_unspaced; back = number_back; only = number_only }

pub ends : Spells end_of Any end_text
ends = record { plain = λ e t. grind arith; back = λ e t. grind arith; only = λ w e h. grind (arith, bytes_eq-Decides) }

pub letters : Spells letter_of (λ c. (65 ≤ c) × (c ≤ 90)) (λ c. c ∷ [])
letters = record { plain = λ c h. grind (arith, nat_tests); back = λ c h. grind (arith, nat_tests); only = λ w c h. grind (arith, nat_tests) }
