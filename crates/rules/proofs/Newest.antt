-- What a rule does to the newest row, or to the first that matches, as something done to each row.
use Rattle.std.proofs.Common.{◌≡◌, ℕ, suc, ◌-◌, Bool, true, false, cond, not, ◌&&◌, eqb, List, [], ◌∷◌, map, length, Some, sym, refl, ap, ◌∙◌, subst, inl, inr, arith}
use Rattle.rules.proofs.Tools.{all_weaker, test}
use Rattle.rules.specs.Ends.{in_state, is_in_lem}
use Rattle.rules.specs.Lists.{All, Any, Pairwise, keeping, newest, renewed, without_first, without_newest}
use Rattle.rules.specs.Safe.{Older}
use Rattle.rules.specs.declared.rows.OwnRow.{OwnRow}
use Rattle.rules.specs.declared.rows.Permission.{Permission}
use Rattle.rules.specs.declared.rows.RowState.{RowState}
use Rattle.rules.specs.declared.rows.RowState.TheVariants.{Asking, Held, In, Withdrawing}

-- a change of state in place, of each row, and the rows that stay when row s goes in a state that passes
abbrev pub restate : (ℕ → RowState → RowState) → OwnRow → OwnRow
restate g r = in_state r (g r.serial r.state)

abbrev pub leaves : ℕ → (RowState → Bool) → OwnRow → Bool
leaves s t r = not (eqb r.serial s && t r.state)

-- the newest is there
pub newest_any : {X : Type 0} (xs : List X) (x : X) → newest xs ≡ Some x → Any (λ y. y ≡ x) xs
newest_any [] x e = absurd (grind (arith, e))
newest_any (y ∷ []) x e = inl cc
newest_any (y ∷ (z ∷ zs)) x e = inr (newest_any (z ∷ zs) x e)

-- the newest stays the newest if it stays
pub newest_keeping : {X : Type 0} (t : X → Bool) (xs : List X) (x : X) → newest xs ≡ Some x → t x ≡ true → newest (keeping t xs) ≡ Some x
newest_keeping t [] x e h = absurd (grind (arith, e))
newest_keeping t (y ∷ []) x e h = let z : y ≡ x = cc in test (t y) (y ∷ []) [] (λ l. newest l ≡ Some x) (λ f. e) (λ f. let w : t y ≡ true = rw z h in absurd (grind (arith, w, f)))
newest_keeping {X = X} t (y ∷ (z ∷ zs)) x e h =
    let ih : newest (keeping t (z ∷ zs)) ≡ Some x = newest_keeping t (z ∷ zs) x e h in
    test (t y) (y ∷ keeping t (z ∷ zs)) (keeping t (z ∷ zs)) (λ l. newest l ≡ Some x) (λ f. longer y (keeping t (z ∷ zs)) x ih) (λ f. ih)
  where
    longer : (y : X) (ys : List X) (x : X) → newest ys ≡ Some x → newest (y ∷ ys) ≡ Some x
    longer y [] x e = absurd (grind (arith, e))
    longer y (z ∷ zs) x e = e

renewed_step : {X : Type 0} (a q x : X) (rs : List X) → renewed (a ∷ (q ∷ rs)) x ≡ a ∷ renewed (q ∷ rs) x
renewed_step a q x rs =
    let e : suc (suc (length rs)) - 1 ≡ suc (length rs) = omega arith in
    let f : suc (length rs) - 1 ≡ length rs = omega arith in
    rw (e, f)

shorter_step : {X : Type 0} (a q : X) (rs : List X) → without_newest (a ∷ (q ∷ rs)) ≡ a ∷ without_newest (q ∷ rs)
shorter_step a q rs =
    let e : suc (suc (length rs)) - 1 ≡ suc (length rs) = omega arith in
    let f : suc (length rs) - 1 ≡ length rs = omega arith in
    rw (e, f)

in_same : (g : ℕ → RowState → RowState) → ((s : ℕ) (k : Permission) → g s (In k) ≡ In k) → (s : ℕ) (st : RowState) → is_in_lem st ≡ true → g s st ≡ st
in_same g h s Asking e = absurd (grind (arith, e))
in_same g h s (Held k) e = absurd (grind (arith, e))
in_same g h s (In k) e = h s k
in_same g h s Withdrawing e = absurd (grind (arith, e))

in_fails : (t : RowState → Bool) → ((k : Permission) → t (In k) ≡ false) → (st : RowState) → is_in_lem st ≡ true → t st ≡ false
in_fails t h Asking e = absurd (grind (arith, e))
in_fails t h (Held k) e = absurd (grind (arith, e))
in_fails t h (In k) e = h k
in_fails t h Withdrawing e = absurd (grind (arith, e))

-- a change of the newest row is a change of each that leaves those In
pub renewed_map : (g : ℕ → RowState → RowState) → ((s : ℕ) (k : Permission) → g s (In k) ≡ In k) → (own : List OwnRow) (r : OwnRow) (st : RowState) →
    Pairwise Older own → newest own ≡ Some r → g r.serial r.state ≡ st → renewed own (in_state r st) ≡ map (restate g) own
renewed_map g h [] r st p e f = absurd (grind (arith, e))
renewed_map g h (a ∷ []) r st p e f = let z : r ≡ a = cc in subst (λ (w : OwnRow). in_state r st ∷ [] ≡ restate g w ∷ []) z (ap (λ (x : RowState). in_state r x ∷ []) (sym f))
renewed_map g h (a ∷ (q ∷ rs)) r st p e f =
    let ih : renewed (q ∷ rs) (in_state r st) ≡ map (restate g) (q ∷ rs) = renewed_map g h (q ∷ rs) r st p.1 e f in
    let same : g a.serial a.state ≡ a.state = in_same g h a.serial a.state p.0.0.gone_in in
    let a_same : a ≡ restate g a = λ i. record { serial = a.serial; train = a.train; class = a.class; state = sym same i } in
    renewed_step a q (in_state r st) rs ∙ ap (λ (l : List OwnRow). a ∷ l) ih ∙ ap (λ (x : OwnRow). x ∷ map (restate g) (q ∷ rs)) a_same

-- the newest row goes: no row In passes
pub shorter_keeping : (s : ℕ) (t : RowState → Bool) → ((k : Permission) → t (In k) ≡ false) → (own : List OwnRow) (r : OwnRow) →
    Pairwise Older own → newest own ≡ Some r → r.serial ≡ s → t r.state ≡ true → without_newest own ≡ keeping (leaves s t) own
shorter_keeping s t h [] r p e f d = absurd (grind (arith, e))
shorter_keeping s t h (a ∷ []) r p e f d =
    let z : r ≡ a = cc in
    let gone : leaves s t a ≡ false = subst (λ (w : OwnRow). leaves s t w ≡ false) z (rw d (grind arith)) in
    test (leaves s t a) (a ∷ []) [] (λ l. [] ≡ l) (λ x. absurd (grind (arith, x, gone))) (λ x. refl)
shorter_keeping s t h (a ∷ (q ∷ rs)) r p e f d =
    let ih : without_newest (q ∷ rs) ≡ keeping (leaves s t) (q ∷ rs) = shorter_keeping s t h (q ∷ rs) r p.1 e f d in
    let stays : t a.state ≡ false = in_fails t h a.state p.0.0.gone_in in
    let there : leaves s t a ≡ true = rw stays (grind arith) in
    test (leaves s t a) (a ∷ keeping (leaves s t) (q ∷ rs)) (keeping (leaves s t) (q ∷ rs)) (λ l. without_newest (a ∷ (q ∷ rs)) ≡ l)
    (λ x. shorter_step a q rs ∙ ap (λ (l : List OwnRow). a ∷ l) ih) (λ x. absurd (grind (arith, x, there)))

-- the first that matches goes: no later one does
pub first_keeping : {X : Type 0} (t : X → Bool) (xs : List X) → Pairwise (λ x y. t x ≡ true → t y ≡ true → ⊥) xs → without_first t xs ≡ keeping (λ x. not (t x)) xs
first_keeping t [] p = refl
first_keeping {X = X} t (x ∷ xs) p =
    test (t x) xs (x ∷ without_first t xs) (λ l. l ≡ cond (not (t x)) (x ∷ keeping (λ x. not (t x)) xs) (keeping (λ x. not (t x)) xs))
    (λ e. rw e (rest xs (all_weaker (λ y f. f e) xs p.0))) (λ e. rw e (ap (λ l. x ∷ l) (first_keeping t xs p.1)))
  where
    rest : (ys : List X) → All (λ y. t y ≡ true → ⊥) ys → ys ≡ keeping (λ x. not (t x)) ys
    rest [] a = refl
    rest (y ∷ ys) a = test (not (t y)) (y ∷ keeping (λ x. not (t x)) ys) (keeping (λ x. not (t x)) ys) (λ l. y ∷ ys ≡ l)
        (λ e. ap (λ l. y ∷ l) (rest ys a.1)) (λ e. absurd (a.0 (grind (arith, e))))
