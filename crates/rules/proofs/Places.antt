-- Where the ends of a line stand: writing one leaves the others.
use Rattle.std.proofs.Common.{◌≡◌, ℕ, zero, suc, ◌<◌, List, [], ◌∷◌, length, get_or, set, arith, get_or-set_other, get_or-set_same}
use Rattle.rules.specs.Ends.{Kept, idle}
use Rattle.rules.specs.Lines.{at_end, blocks, site, with_end}
use Rattle.rules.specs.Lists.{All}
use Rattle.slip.specs.Numbers.{other_end}
use Rattle.slip.specs.declared.track.End.{End}
use Rattle.slip.specs.declared.track.End.TheVariants.{East, West}

within : (ks : List Kept) (n : ℕ) (e : End) → n < blocks ks → site n e < length ks
within ks n West l = omega (arith, l)
within ks n East l = omega (arith, l)

apart : (q n : ℕ) (f e : End) → (q ≡ n → ⊥) → site q f ≡ site n e → ⊥
apart q n West West d h = d (omega (arith, h))
apart q n West East d h = d (omega (arith, h))
apart q n East West d h = d (omega (arith, h))
apart q n East East d h = d (omega (arith, h))

across : (n : ℕ) (e : End) → site n (other_end e) ≡ site n e → ⊥
across n West h = omega (arith, h)
across n East h = omega (arith, h)

pub here : (ks : List Kept) (n : ℕ) (e : End) (z : Kept) → n < blocks ks → at_end (with_end ks n e z) n e ≡ z
here ks n e z l = get_or-set_same ks (site n e) z (idle 0) (within ks n e l)

pub opposite : (ks : List Kept) (n : ℕ) (e : End) (z : Kept) → at_end (with_end ks n e z) n (other_end e) ≡ at_end ks n (other_end e)
opposite ks n e z = get_or-set_other ks (site n e) (site n (other_end e)) z (idle 0) (across n e)

pub elsewhere : (ks : List Kept) (n q : ℕ) (e f : End) (z : Kept) → (q ≡ n → ⊥) → at_end (with_end ks n e z) q f ≡ at_end ks q f
elsewhere ks n q e f z d = get_or-set_other ks (site n e) (site q f) z (idle 0) (apart q n f e d)

-- what holds of each end, wherever one is read or written

pub all_set : {X : Type 0} (P : X → Type 0) (xs : List X) (i : ℕ) (x : X) → All P xs → P x → All P (set xs i x)
all_set P [] i x a h = tt
all_set P (y ∷ ys) zero x a h = (h, a.1)
all_set P (y ∷ ys) (suc i) x a h = (a.0, all_set P ys i x a.1 h)

pub all_at : {X : Type 0} (P : X → Type 0) (xs : List X) (i : ℕ) (d : X) → All P xs → P d → P (get_or xs i d)
all_at P [] i d a h = h
all_at P (y ∷ ys) zero d a h = a.0
all_at P (y ∷ ys) (suc i) d a h = all_at P ys i d a.1 h
