-- A station's record as the rules speak of it.
use Rattle.std.specs.Prelude.{cond, length, Some, None, vec_items, Option, nat_lt}
use Rattle.rules.specs.Ends.{Kept}
use Rattle.rules.specs.Moves.{with_asking}
use Rattle.station.specs.declared.end.Station.{Station}
use Rattle.station.specs.declared.end.asking.Asking.{Asking}

-- what the end keeps
abbrev pub kept : Station → Kept
kept s = record { own = vec_items s.own; promised = vec_items s.promised; used = s.used; heard = s.heard; signal = s.signal }

-- a new asking is noted where there is a place for its row
abbrev pub asking_noted : Asking → Kept → Option Unit × Kept
asking_noted a k = cond (nat_lt (length k.own) 4) (Some tt, with_asking a.serial a.train a.class k) (None, k)
