-- The choices of the wires here are lawful: each wire gives one of these with its relation.
use Rattle.wire.specs.Waiting.{Faded, LawfulLoses, LawfulPicks, LosesNone, OldestFirst, Taken}
use Rattle.std.specs.Prelude.{[], ◌∷◌, refl}
use Rattle.std.proofs.Common.{inl}

pub oldest_first_lawful : LawfulPicks OldestFirst
oldest_first_lawful [] r left h = rw h.0 (refl, h.1)
oldest_first_lawful (w ∷ ws) r left h = rw h.0 ([], ws, refl, inl h.1)

pub loses_none_lawful : LawfulLoses LosesNone
loses_none_lawful ws left h = inl h

-- a wire that says no more of its choice than a wire must
pub taken_lawful : LawfulPicks Taken
taken_lawful ws r left h = h

pub faded_lawful : LawfulLoses Faded
faded_lawful ws left h = h
