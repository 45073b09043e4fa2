-- The rows of one end stay in order, whatever slip is heard there.
use Rattle.std.proofs.Common.{◌≡◌, ℕ, ◌<◌, ◌≤◌, max, Bool, true, false, cond, not, ◌&&◌, eqb, leb, ◌⊎◌, List, [], ◌∷◌, ◌++◌, map, length, Some, None, Option, sym, refl, ap, subst, inl, inr, arith}
use Rattle.book.specs.Books.{Book, Lawful}
use Rattle.rules.proofs.Newest.{first_keeping, leaves, newest_keeping, shorter_keeping}
use Rattle.rules.proofs.Orderly.{Orderly, fewer, renewed_orderly, stops, with_rows}
use Rattle.rules.proofs.Tools.{all_keeping, all_map, all_push, all_weaker, length_keeping, pairs_keeping, pairs_map, pairs_push, pairs_weaker, test}
use Rattle.std.proofs.lemmas.List.{length-append, length-map}
use Rattle.rules.specs.Ends.{Kept, is_asking, is_in_lem, is_withdrawing, newest_to, own_in, promise_of, with_own, with_promised}
use Rattle.rules.specs.Hearing.{admitted, against_own, behind_promised, counted, dropped, dropping, grant_row, granted, hears, marked, new_promise, out_of, promising, refusing, reported_of, wanted_of, withdraw_heard}
use Rattle.rules.specs.Lists.{Pairwise, find, how_many, keeping, newest, without_first}
use Rattle.rules.specs.Safe.{HeldAs, Lower, Older, Shows}
use Rattle.rules.specs.declared.rows.Heard.{Heard}
use Rattle.rules.specs.declared.rows.OwnRow.{OwnRow}
use Rattle.rules.specs.declared.rows.Permission.{Permission}
use Rattle.rules.specs.declared.rows.PromisedRow.{PromisedRow}
use Rattle.rules.specs.declared.rows.RowState.TheVariants.{Asking, Held, In, Withdrawing}
use Rattle.rules.specs.declared.rows.RowState.{RowState}
use Rattle.rules.specs.Ends.{Signal}
use Rattle.slip.specs.Numbers.{class_letter_lem}
use Rattle.slip.specs.declared.paper.Message.{Message}
use Rattle.slip.specs.declared.track.Class.{Class}
use Rattle.slip.specs.declared.track.Train.{Train}
use Rattle.std.proofs.lemmas.Bool.{cases_lt}

abbrev pub granting : ℕ → Permission → ℕ → RowState → RowState
granting s kind q Asking = cond (eqb q s) (Held kind) Asking
granting s kind q (Held other) = Held other
granting s kind q (In other) = In other
granting s kind q Withdrawing = Withdrawing

grant_orderly : (s : ℕ) (kind : Permission) (k : Kept) → Orderly k → Orderly (granted s kind k (newest k.own)).1
grant_orderly s kind k o = go (newest k.own) refl
  where
    asking : (st : RowState) → st ≡ Asking → (other : Permission) → st ≡ Held other → ⊥
    asking st e other z = grind arith

    row : (r : OwnRow) (st : RowState) → newest k.own ≡ Some r → r.state ≡ st → r.serial ≡ s → Orderly (grant_row kind k r st).1
    row r Asking e z w = subst (λ (g : Signal). Orderly (with_own k (newest_to k r (Held kind)) g)) (sym (stops k r e (asking r.state z) o))
        (renewed_orderly k (granting s kind) (λ q j. refl) r (Held kind) e (rw (z, w) (grind arith)) o)
    row r (Held j) e z w = o
    row r (In j) e z w = o
    row r Withdrawing e z w = o

    go : (x : Option OwnRow) → newest k.own ≡ x → Orderly (granted s kind k x).1
    go None e = o
    go (Some r) e = test (eqb r.serial s) _ _ (λ (d : Heard × Kept). Orderly d.1) (λ z. row r r.state e refl (grind arith)) (λ z. o)

-- the newest row goes, which is not Held
drop_orderly : (k : Kept) (r : OwnRow) (t : RowState → Bool) → ((kind : Permission) → t (In kind) ≡ false) → ((kind : Permission) → t (Held kind) ≡ false) → newest k.own ≡ Some r → t r.state ≡ true → Orderly k → Orderly (dropping k).1
drop_orderly k r t n m e h o =
    subst (λ (l : List OwnRow). Orderly (with_own k l k.signal)) (sym (shorter_keeping r.serial t n k.own r o.rules.own_order e refl h))
    (fewer k (leaves r.serial t) k.signal (subst (λ (g : Signal). Shows (newest (keeping (leaves r.serial t) k.own)) g) (sym (stops k r e (λ kind z. let w : t r.state ≡ false = rw z (m kind) in grind (arith, w, h)) o)) tt) o)

dropped_orderly : (s : ℕ) (t : RowState → Bool) → ((kind : Permission) → t (In kind) ≡ false) → ((kind : Permission) → t (Held kind) ≡ false) → (k : Kept) → Orderly k → Orderly (dropped t s k (newest k.own)).1
dropped_orderly s t n h k o = go (newest k.own) refl
  where
    go : (x : Option OwnRow) → newest k.own ≡ x → Orderly (dropped t s k x).1
    go None e = o
    go (Some r) e = test (eqb r.serial s) _ _ (λ (d : Heard × Kept). Orderly d.1) (λ z. test (t r.state) _ _ (λ (d : Heard × Kept). Orderly d.1) (λ w. drop_orderly k r t n h e w o) (λ w. o)) (λ z. o)

pub out_keeping : (s : ℕ) (own : List OwnRow) → Pairwise Older own → without_first (own_in s) own ≡ keeping (leaves s is_in_lem) own
out_keeping s own p = first_keeping (own_in s) own (pairs_weaker Older _ (λ r q b e f. let l = b.serial in grind (arith, l)) own p)

-- the signal, where a row In goes
out_shows : (k : Kept) (s : ℕ) (g : Signal) → Shows (newest k.own) g → Shows (newest (keeping (leaves s is_in_lem) k.own)) g
out_shows k s None h = tt
out_shows k s (Some kind) h = go (newest k.own) refl h
  where
    stays : (q : ℕ) (st : RowState) → st ≡ Held kind → not (eqb q s && is_in_lem st) ≡ true
    stays q st e = grind arith

    go : (x : Option OwnRow) → newest k.own ≡ x → HeldAs kind x → HeldAs kind (newest (keeping (leaves s is_in_lem) k.own))
    go None e z = absurd z
    go (Some r) e z = subst (λ (x : Option OwnRow). HeldAs kind x) (sym (newest_keeping (leaves s is_in_lem) k.own r e (stays r.serial r.state z))) z

out_orderly : (s : ℕ) (k : Kept) (x : Option OwnRow) → Orderly k → Orderly (out_of s k x).1
out_orderly s k None o = o
out_orderly s k (Some r) o = subst (λ (l : List OwnRow). Orderly (with_own k l k.signal)) (sym (out_keeping s k.own o.rules.own_order))
    (fewer k (leaves s is_in_lem) k.signal (out_shows k s k.signal o.rules.signal) o)

report_orderly : (s : ℕ) (k : Kept) (x : Option PromisedRow) → Orderly k → Orderly (reported_of s k x).1
report_orderly s k None o = o
report_orderly s k (Some p) o = with_rows k (map (marked s) k.promised) k.heard
    (pairs_map Lower Lower (marked s) (λ p q h. h) k.promised o.rules.promised_order) (omega (arith, length-map k.promised (marked s), o.rules.promised_few))
    (all_map (λ p. p.serial ≤ k.heard) (marked s) k.promised o.heard) o

pub promise_keeping : (s : ℕ) (ps : List PromisedRow) → Pairwise Lower ps → without_first (promise_of s) ps ≡ keeping (λ p. not (promise_of s p)) ps
promise_keeping s ps r = first_keeping (promise_of s) ps (pairs_weaker Lower _ (λ p q l e f. grind (arith, l)) ps r)

withdraw_heard_orderly : (s : ℕ) (k : Kept) → Orderly k → Orderly (withdraw_heard s k).1
withdraw_heard_orderly s k o = subst (λ (l : List PromisedRow). Orderly (with_promised k l (max k.heard s))) (sym (promise_keeping s k.promised o.rules.promised_order))
    (with_rows k (keeping (λ p. not (promise_of s p)) k.promised) (max k.heard s)
    (pairs_keeping Lower (λ p. not (promise_of s p)) k.promised o.rules.promised_order)
    (omega (arith, length_keeping (λ p. not (promise_of s p)) k.promised, o.rules.promised_few))
    (all_keeping (λ p. p.serial ≤ k.heard) (λ p. p.serial ≤ max k.heard s) (λ p. not (promise_of s p)) (λ p e h. omega arith) k.promised o.heard) o)

-- a book that admits has room left
pub room_left : (b : Book) → Lawful b → (c : Class) (ps : List PromisedRow) → admitted b c ps ≡ true → length ps < b.limit
room_left b law c ps e = below (cases_lt (length ps) b.limit)
  where
    below : (length ps < b.limit) ⊎ (b.limit ≤ length ps) → length ps < b.limit
    below (inl x) = x
    below (inr x) = absurd (grind (arith, e, law.full (class_letter_lem c) (length ps) (how_many counted ps) x))

promise_orderly : (k : Kept) (s : ℕ) (t : Train) (c : Class) (kind : Permission) → k.heard < s → length k.promised < 4 → Orderly k → Orderly (promising s t c kind k).1
promise_orderly k s t c kind l f o = with_rows k (k.promised ++ (new_promise s t c kind ∷ [])) s
    (pairs_push Lower k.promised (new_promise s t c kind) o.rules.promised_order (all_weaker (λ p h. omega arith) k.promised o.heard))
    (omega (arith, length-append k.promised ((new_promise s t c kind) ∷ []), f))
    (all_push (λ p. p.serial ≤ s) k.promised (new_promise s t c kind) (all_weaker (λ p h. omega arith) k.promised o.heard) (omega arith)) o

refusing_orderly : (k : Kept) (s : ℕ) → k.heard < s → Orderly k → Orderly (refusing s k).1
refusing_orderly k s l o = with_rows k k.promised s o.rules.promised_order o.rules.promised_few (all_weaker (λ p h. omega arith) k.promised o.heard) o

wanted_orderly : (b : Book) → Lawful b → (s : ℕ) (t : Train) (c : Class) (k : Kept) (x : Option PromisedRow) → Orderly k → Orderly (wanted_of b s t c k x).1
wanted_orderly b law s t c k (Some p) o = o
wanted_orderly b law s t c k None o = test (leb s k.heard) _ _ (λ (d : Heard × Kept). Orderly d.1) (λ z. o) (λ z. own (grind arith) k.own)
  where
    behind : k.heard < s → (ps : List PromisedRow) → k.promised ≡ ps → Orderly (behind_promised b s t c k ps).1
    behind l [] e = promise_orderly k s t c Permission.Clear l (let z : length k.promised ≡ 0 = ap length e in omega (arith, z)) o
    behind l (p ∷ ps) e = test (admitted b c (p ∷ ps)) _ _ (λ (d : Heard × Kept). Orderly d.1)
        (λ z. promise_orderly k s t c Permission.Permissive l (let n : length k.promised ≡ length (p ∷ ps) = ap length e in omega (arith, n, room_left b law c (p ∷ ps) z, law.most)) o)
        (λ z. refusing_orderly k s l o)

    own : k.heard < s → (rs : List OwnRow) → Orderly (against_own b s t c k rs).1
    own l [] = behind l k.promised refl
    own l (r ∷ rs) = refusing_orderly k s l o

pub hear_orderly : (b : Book) → Lawful b → (s : ℕ) (m : Message) (k : Kept) → Orderly k → Orderly (hears b s m k).1
hear_orderly b law s (Message.Wanted t c) k o = wanted_orderly b law s t c k (find (promise_of s) k.promised) o
hear_orderly b law s Message.Clear k o = grant_orderly s Permission.Clear k o
hear_orderly b law s Message.Permissive k o = grant_orderly s Permission.Permissive k o
hear_orderly b law s Message.NotClear k o = dropped_orderly s is_asking (λ kind. refl) (λ kind. refl) k o
hear_orderly b law s Message.Entered k o = report_orderly s k (find (promise_of s) k.promised) o
hear_orderly b law s Message.Out k o = out_orderly s k (find (own_in s) k.own) o
hear_orderly b law s Message.Withdraw k o = withdraw_heard_orderly s k o
hear_orderly b law s Message.Released k o = dropped_orderly s is_withdrawing (λ kind. refl) (λ kind. refl) k o
