-- What the library finds in a list, in the words of the rules.
use Rattle.std.proofs.Common.{◌≡◌, ℕ, suc, ◌+◌, ◌-◌, ◌≤◌, Bool, true, false, cond, ltb, not, List, [], ◌∷◌, ◌++◌, length, take, Some, None, Option, slice_get, sym, refl, ap, ◌∙◌, append-nil, arith}
use Rattle.rules.specs.Lists.{how_many, newest, without_first}
use Rattle.station.specs.Places.{Placed}
use Rattle.std.proofs.lemmas.Bool.{ltb-true, ltb-false}
use Rattle.std.proofs.lemmas.List.{drop_all, take_all}
use Rattle.std.proofs.lemmas.List.Folds.{find_at}
use Rattle.std.proofs.lemmas.Option.{slice_get-get_or, slice_get_past}
use Rattle.std.specs.List.{filter, position, position_or_len, remove}

-- the last
pub newest_at : {X : Type 0} (xs : List X) → slice_get xs (length xs - 1) ≡ newest xs
newest_at [] = refl
newest_at (x ∷ []) = refl
newest_at (x ∷ (y ∷ ys)) =
    let e : length (x ∷ (y ∷ ys)) - 1 ≡ suc (length (y ∷ ys) - 1) = omega arith in
    ap (slice_get (x ∷ (y ∷ ys))) e ∙ newest_at (y ∷ ys)

-- the list without the first that passes a test
without_at : {X : Type 0} (test : X → Bool) (xs : List X) → without_first test xs ≡ remove xs (position_or_len test xs)
without_at test [] = refl
without_at test (x ∷ xs) =
    let n = position_or_len test xs in
    let e : 1 + n ≡ suc n = omega arith in
    elim (test x) as (λ b. cond b xs (x ∷ without_first test xs) ≡ remove (x ∷ xs) (cond (not b) (1 + n) 0)) [
      | true ↦ refl
      | false ↦ ap (λ ys. x ∷ ys) (without_at test xs) ∙ ap (remove (x ∷ xs)) (sym e)
    ]

-- the place of the first that passes
placed_at : {X : Type 0} (test : X → Bool) (xs : List X) (b : Bool) → ltb (position_or_len test xs) (length xs) ≡ b → Placed test xs (cond b (Some (position_or_len test xs)) None)
placed_at test xs true e =
    let h = ltb-true (position_or_len test xs) (length xs) e in
    (h, (λ d. find_at test xs ∙ slice_get-get_or xs (position_or_len test xs) d h), without_at test xs)
placed_at test xs false e =
    let n = position_or_len test xs in
    let h = ltb-false n (length xs) e in (
      find_at test xs ∙ slice_get_past xs n h,
      without_at test xs ∙ ap (λ ys. take n xs ++ ys) (drop_all (suc n) xs (omega arith)) ∙ append-nil (take n xs) ∙ take_all n xs h,
    )

pub placed : {X : Type 0} (test : X → Bool) (xs : List X) (r : Option ℕ) → r ≡ position test xs → Placed test xs r
placed test xs r e = rw e (placed_at test xs (ltb (position_or_len test xs) (length xs)) refl)

-- how many pass
how_many_same : {X : Type 0} (test : X → Bool) (xs : List X) → length (filter test xs) ≡ how_many test xs
how_many_same test [] = refl
how_many_same test (x ∷ xs) = grind (arith, how_many_same test xs)

pub counted_out : {X : Type 0} (test : X → Bool) (xs : List X) (r : ℕ) → r ≡ length (filter test xs) → r ≡ how_many test xs
counted_out test xs r e = e ∙ how_many_same test xs

pub how_many_few : {X : Type 0} (test : X → Bool) (xs : List X) → how_many test xs ≤ length xs
how_many_few test [] = omega arith
how_many_few test (x ∷ xs) = grind (arith, how_many_few test xs)
