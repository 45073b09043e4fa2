use Rattle.std.proofs.Common.{◌≡◌, ◌^◌, ◌<◌, drop}
use Rattle.words.proofs.spell.U32Spelled.spelled.Given as goal
use Rattle.words.specs.Spelling.{digits_after}

abbrev pub invariant-loop-b : goal.invariant-loop-b
invariant-loop-b l = (l.n < 10 ^ l.b-index) × (digits_after 0 l.text ≡ digits_after l.n (drop l.b-index l.text))
