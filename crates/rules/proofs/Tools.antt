-- Lemmas on lists of any kind.
use Rattle.std.proofs.Common.{◌≡◌, suc, ◌≤◌, Bool, true, false, cond, List, [], ◌∷◌, ◌++◌, map, length, Some, refl, ap, inl, inr, arith}
use Rattle.rules.specs.Lists.{All, Any, Each, Pairwise, find, keeping}

-- cases on a test, with the equation
pub test : {X : Type 0} (b : Bool) (x y : X) (C : X → Type 0) → (b ≡ true → C x) → (b ≡ false → C y) → C (cond b x y)
test true x y C f g = f refl
test false x y C f g = g refl

pub all_weaker : {X : Type 0} {P Q : X → Type 0} → ((x : X) → P x → Q x) → (xs : List X) → All P xs → All Q xs
all_weaker f [] a = tt
all_weaker f (x ∷ xs) a = (f x a.0, all_weaker f xs a.1)

-- two facts of each element give a third
pub all_both : {X : Type 0} (P Q S : X → Type 0) → ((x : X) → P x → Q x → S x) → (xs : List X) → All P xs → All Q xs → All S xs
all_both P Q S f [] a b = tt
all_both P Q S f (x ∷ xs) a b = (f x a.0 b.0, all_both P Q S f xs a.1 b.1)

pub all_map : {X Y : Type 0} (P : Y → Type 0) (f : X → Y) (xs : List X) → All (λ x. P (f x)) xs → All P (map f xs)
all_map P f [] a = tt
all_map P f (x ∷ xs) a = (a.0, all_map P f xs a.1)

pub all_push : {X : Type 0} (P : X → Type 0) (xs : List X) (y : X) → All P xs → P y → All P (xs ++ (y ∷ []))
all_push P [] y a b = (b, tt)
all_push P (x ∷ xs) y a b = (a.0, all_push P xs y a.1 b)

-- what a filter keeps, with the test
pub all_keeping : {X : Type 0} (P Q : X → Type 0) (t : X → Bool) → ((x : X) → t x ≡ true → P x → Q x) → (xs : List X) → All P xs → All Q (keeping t xs)
all_keeping P Q t f [] a = tt
all_keeping P Q t f (x ∷ xs) a =
    test (t x) (x ∷ keeping t xs) (keeping t xs) (All Q) (λ e. (f x e a.0, all_keeping P Q t f xs a.1)) (λ e. all_keeping P Q t f xs a.1)

pub any_weaker : {X : Type 0} (P Q : X → Type 0) → ((x : X) → P x → Q x) → (xs : List X) → Any P xs → Any Q xs
any_weaker P Q f [] a = a
any_weaker P Q f (x ∷ xs) (inl h) = inl (f x h)
any_weaker P Q f (x ∷ xs) (inr h) = inr (any_weaker P Q f xs h)

-- some element and a fact of each
pub any_all : {X : Type 0} (P Q S : X → Type 0) → ((x : X) → P x → Q x → S x) → (xs : List X) → All P xs → Any Q xs → Any S xs
any_all P Q S f [] a h = h
any_all P Q S f (x ∷ xs) a (inl h) = inl (f x a.0 h)
any_all P Q S f (x ∷ xs) a (inr h) = inr (any_all P Q S f xs a.1 h)

-- out of some element: C does not name it
pub any_out : {X : Type 0} (P Q : X → Type 0) (C : Type 0) → ((x : X) → P x → Q x → C) → (xs : List X) → All P xs → Any Q xs → C
any_out P Q C f [] a h = absurd h
any_out P Q C f (x ∷ xs) a (inl h) = f x a.0 h
any_out P Q C f (x ∷ xs) a (inr h) = any_out P Q C f xs a.1 h

pub any_map : {X Y : Type 0} (P : Y → Type 0) (f : X → Y) (xs : List X) → Any (λ x. P (f x)) xs → Any P (map f xs)
any_map P f [] h = h
any_map P f (x ∷ xs) (inl h) = inl h
any_map P f (x ∷ xs) (inr h) = inr (any_map P f xs h)

pub any_left : {X : Type 0} (P : X → Type 0) (xs ys : List X) → Any P xs → Any P (xs ++ ys)
any_left P [] ys h = absurd h
any_left P (x ∷ xs) ys (inl h) = inl h
any_left P (x ∷ xs) ys (inr h) = inr (any_left P xs ys h)

pub any_push : {X : Type 0} (P : X → Type 0) (xs : List X) (y : X) → P y → Any P (xs ++ (y ∷ []))
any_push P [] y h = inl h
any_push P (x ∷ xs) y h = inr (any_push P xs y h)

-- an element that passes the test is keeping
pub any_keeping : {X : Type 0} (P : X → Type 0) (t : X → Bool) → ((x : X) → P x → t x ≡ true) → (xs : List X) → Any P xs → Any P (keeping t xs)
any_keeping P t f [] h = h
any_keeping P t f (x ∷ xs) (inl h) =
    test (t x) (x ∷ keeping t xs) (keeping t xs) (Any P) (λ e. inl h) (λ e. let z : true ≡ false = cc (f x h, e) in absurd (grind (arith, z)))
any_keeping P t f (x ∷ xs) (inr h) =
    test (t x) (x ∷ keeping t xs) (keeping t xs) (Any P) (λ e. inr (any_keeping P t f xs h)) (λ e. any_keeping P t f xs h)

pub pairs_map : {X : Type 0} (R S : X → X → Type 0) (f : X → X) → ((x y : X) → R x y → S (f x) (f y)) → (xs : List X) → Pairwise R xs → Pairwise S (map f xs)
pairs_map R S f g [] a = tt
pairs_map R S f g (x ∷ xs) a = (all_map (S (f x)) f xs (all_weaker (g x) xs a.0), pairs_map R S f g xs a.1)

pub pairs_keeping : {X : Type 0} (R : X → X → Type 0) (t : X → Bool) (xs : List X) → Pairwise R xs → Pairwise R (keeping t xs)
pairs_keeping R t [] a = tt
pairs_keeping R t (x ∷ xs) a =
    test (t x) (x ∷ keeping t xs) (keeping t xs) (Pairwise R)
    (λ e. (all_keeping (R x) (R x) t (λ y e h. h) xs a.0, pairs_keeping R t xs a.1)) (λ e. pairs_keeping R t xs a.1)

pub pairs_push : {X : Type 0} (R : X → X → Type 0) (xs : List X) (y : X) → Pairwise R xs → All (λ x. R x y) xs → Pairwise R (xs ++ (y ∷ []))
pairs_push R [] y a b = (tt, tt)
pairs_push R (x ∷ xs) y a b = (all_push (R x) xs y a.0 b.0, pairs_push R xs y a.1 b.1)

pub each_any : {X Y : Type 0} (R : X → Y → Type 0) (P : Y → Type 0) (Q : X → Type 0) → ((x : X) (y : Y) → R x y → P y → Q x) → (xs : List X) (ys : List Y) → Each R xs ys → Any P ys → Any Q xs
each_any R P Q f [] [] e a = absurd a
each_any R P Q f [] (y ∷ ys) e a = absurd e
each_any R P Q f (x ∷ xs) [] e a = absurd e
each_any R P Q f (x ∷ xs) (y ∷ ys) e (inl a) = inl (f x y e.0 a)
each_any R P Q f (x ∷ xs) (y ∷ ys) e (inr a) = inr (each_any R P Q f xs ys e.1 a)

pub each_all : {X Y : Type 0} (R : X → Y → Type 0) (P : Y → Type 0) (Q : X → Type 0) → ((x : X) (y : Y) → R x y → P y → Q x) → (xs : List X) (ys : List Y) → Each R xs ys → All P ys → All Q xs
each_all R P Q f [] [] e a = tt
each_all R P Q f [] (y ∷ ys) e a = tt
each_all R P Q f (x ∷ xs) [] e a = absurd e
each_all R P Q f (x ∷ xs) (y ∷ ys) e a = (f x y e.0 a.0, each_all R P Q f xs ys e.1 a.1)

pub each_push : {X Y : Type 0} (R : X → Y → Type 0) (xs : List X) (ys : List Y) (x : X) (y : Y) → Each R xs ys → R x y → Each R (xs ++ (x ∷ [])) (ys ++ (y ∷ []))
each_push R [] [] x y e r = (r, tt)
each_push R [] (b ∷ ys) x y e r = absurd e
each_push R (a ∷ xs) [] x y e r = absurd e
each_push R (a ∷ xs) (b ∷ ys) x y e r = (e.0, each_push R xs ys x y e.1 r)

pub each_length : {X Y : Type 0} (R : X → Y → Type 0) (xs : List X) (ys : List Y) → Each R xs ys → length xs ≡ length ys
each_length R [] [] e = refl
each_length R [] (b ∷ ys) e = absurd e
each_length R (a ∷ xs) [] e = absurd e
each_length R (a ∷ xs) (b ∷ ys) e = ap suc (each_length R xs ys e.1)

pub keeping_none : {X : Type 0} (t : X → Bool) (xs : List X) → All (λ x. t x ≡ true → ⊥) xs → keeping t xs ≡ []
keeping_none t [] a = refl
keeping_none t (x ∷ xs) a = test (t x) (x ∷ keeping t xs) (keeping t xs) (λ l. l ≡ []) (λ e. absurd (a.0 e)) (λ e. keeping_none t xs a.1)

pub find_any : {X : Type 0} (f : X → Bool) (xs : List X) (x : X) → find f xs ≡ Some x → Any (λ y. (f y ≡ true) × (y ≡ x)) xs
find_any f [] x e = absurd (grind (arith, e))
find_any f (y ∷ ys) x e =
    test (f y) (Some y) (find f ys) (λ o. o ≡ Some x → Any (λ y. (f y ≡ true) × (y ≡ x)) (y ∷ ys)) (λ z w. inl (z, cc)) (λ z w. inr (find_any f ys x w)) e

pub each_turn : {X Y : Type 0} (R : X → Y → Type 0) (xs : List X) (ys : List Y) → Each R xs ys → Each (λ y x. R x y) ys xs
each_turn R [] [] e = tt
each_turn R [] (y ∷ ys) e = e
each_turn R (x ∷ xs) [] e = e
each_turn R (x ∷ xs) (y ∷ ys) e = (e.0, each_turn R xs ys e.1)

pub both_keeping : {X : Type 0} (A P : X → Type 0) (t : X → Bool) → ((x : X) → A x → P x → t x ≡ true) → (xs : List X) → All A xs → Any P xs → Any P (keeping t xs)
both_keeping A P t f [] a h = h
both_keeping A P t f (x ∷ xs) a (inl h) =
    test (t x) (x ∷ keeping t xs) (keeping t xs) (Any P) (λ e. inl h) (λ e. let z : t x ≡ true = f x a.0 h in absurd (grind (arith, z, e)))
both_keeping A P t f (x ∷ xs) a (inr h) =
    test (t x) (x ∷ keeping t xs) (keeping t xs) (Any P) (λ e. inr (both_keeping A P t f xs a.1 h)) (λ e. both_keeping A P t f xs a.1 h)

pub length_keeping : {X : Type 0} (t : X → Bool) (xs : List X) → length (keeping t xs) ≤ length xs
length_keeping t [] = omega arith
length_keeping t (x ∷ xs) = test (t x) (x ∷ keeping t xs) (keeping t xs) (λ l. length l ≤ suc (length xs)) (λ e. omega (arith, length_keeping t xs)) (λ e. omega (arith, length_keeping t xs))

pub pairs_weaker : {X : Type 0} (R S : X → X → Type 0) → ((x y : X) → R x y → S x y) → (xs : List X) → Pairwise R xs → Pairwise S xs
pairs_weaker R S f [] a = tt
pairs_weaker R S f (x ∷ xs) a = (all_weaker (f x) xs a.0, pairs_weaker R S f xs a.1)
