-- One end of a line, in its place among the ends.
use Rattle.std.proofs.Common.{◌≡◌, ℕ, ◌<◌, List, map, length, get_or, set, sym, ap, ◌∙◌, arith}
use Rattle.rules.specs.Ends.{idle}
use Rattle.rules.specs.Lines.{at_end, site, with_end}
use Rattle.slip.specs.declared.track.End.{End}
use Rattle.station.specs.Records.{kept}
use Rattle.station.specs.declared.end.Station.{Station}
use Rattle.std.proofs.lemmas.List.{get_or-map, length-map, map-set, set-get_or}

-- a station's place in the list: x stands there, and y takes its place
pub record InPlace (xs : List Station) (i block : ℕ) (end : End) (x y : Station) : Type 0 where
  pub before : at_end (map kept xs) block end ≡ kept x
  pub after : map kept (set xs i y) ≡ with_end (map kept xs) block end (kept y)
  pub same : y ≡ x → map kept (set xs i y) ≡ map kept xs

-- where x stands at i, which is the site of this end
pub in_place : (xs : List Station) (i block : ℕ) (end : End) (x y : Station) → i ≡ site block end → site block end < length (map kept xs) → x ≡ get_or xs i x → InPlace xs i block end x y
in_place xs i block end x y at inside here = record {
  before = get_or-map kept xs (site block end) x (idle 0) (omega (arith, length-map xs kept)) ∙ ap kept (sym (here ∙ ap (λ (n : ℕ). get_or xs n x) at));
  after = ap (λ (n : ℕ). map kept (set xs n y)) at ∙ map-set kept xs (site block end) y;
  same = λ e. ap (λ (z : Station). map kept (set xs i z)) (e ∙ here) ∙ ap (map kept) (set-get_or xs i x);
}
