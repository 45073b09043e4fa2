-- What writing to a ring and going round it leave.
use Rattle.std.proofs.Common.{◌≡◌, ℕ, suc, ◌+◌, ◌-◌, ◌*◌, ◌^◌, ◌<◌, ◌≤◌, true, ◌≢◌, List, [], ◌∷◌, ◌++◌, map, length, take, drop, is_ok, Some, None, Ok, sym, refl, ap, ◌∙◌, subst, inl, inr, arith, rules, below_more}
use Rattle.slip.proofs.Trips.{reads_back}
use Rattle.slip.specs.Bytes.{decode, encode, slip_length}
use Rattle.slip.specs.Form.{InForm}
use Rattle.slip.specs.declared.paper.Slip.{Slip}
use Rattle.std.proofs.lemmas.Bool.{cases_order}
use Rattle.std.proofs.lemmas.List.Edits.{length-paste}
use Rattle.std.proofs.lemmas.List.FromFn.{fill_by_all, get_or-map-range_with_len, length-map-range_with_len, map-range_with_len_more}
use Rattle.std.proofs.lemmas.List.{places as reads, same_lists}
use Rattle.std.proofs.lemmas.Slice.{put_mid-paste}
use Rattle.std.specs.List.{range_with_len}
use Rattle.telegraph.proofs.Places.{place_apart, place_below, place_next, place_none}
use Rattle.telegraph.specs.Ring.{Readable, place, places, ring, slip_at, slip_bytes_lem, slip_read, stored}
use Rattle.wire.specs.Waiting.{OldestFirst}
use borrow.Rule.Slice.PartMut.{put_mid}
use lib.Seq.{paste}

-- of a list, a part of w elements at b, once w others were written at a

part_before : {X : Type 0} (xs ys : List X) (a b w : ℕ) → b + w ≤ a → a ≤ length xs → take w (drop b (paste xs a ys w)) ≡ take w (drop b xs)
part_before xs ys a b w h l = same_lists _ _ (search (rules, reads)) (λ k d x. grind (arith, reads))

part_after : {X : Type 0} (xs ys : List X) (a b w : ℕ) → a + w ≤ b → a + w ≤ length xs → length ys ≡ w → take w (drop b (paste xs a ys w)) ≡ take w (drop b xs)
part_after xs ys a b w h l m = same_lists _ _ (search (rules, reads)) (λ k d x. grind (arith, reads))

part_same : {X : Type 0} (xs ys : List X) (a w : ℕ) → a ≤ length xs → length ys ≡ w → take w (drop a (paste xs a ys w)) ≡ ys
part_same xs ys a w l m = same_lists _ _ (search (rules, reads)) (λ k d x. grind (arith, reads))

other_place : (bs new : List ℕ) (t q : ℕ) → length new ≡ slip_length → slip_length * t + slip_length ≤ length bs → q ≢ t → slip_bytes_lem (stored bs t new) q ≡ slip_bytes_lem bs q
other_place bs new t q l b h =
    elim (cases_order q t) [
      | inl e ↦ absurd (h e)
      | inr o ↦ elim o [
        | inl u ↦ part_before bs new (slip_length * t) (slip_length * q) slip_length (omega arith) (omega arith)
        | inr v ↦ part_after bs new (slip_length * t) (slip_length * q) slip_length (omega arith) (omega arith) l
      ]
    ]

-- lists counted out by two functions that agree
same_counted : (f g : ℕ → Slip) (a c : ℕ) (s : Slip) → ((k : ℕ) → k < c → f (a + k) ≡ g k) → map f (range_with_len a c) ≡ map g (range_with_len 0 c)
same_counted f g a c s h = fill_by_all g (map f (range_with_len a c)) c s (length-map-range_with_len f a c) (λ k x. get_or-map-range_with_len f a c k (a + k) s x (omega arith) ∙ h k x)

-- a slip's bytes are stored at the place after the newest slip
module _ (bs new : List ℕ) (p c : ℕ) (inside : p < places bs) (space : c < places bs) (whole : length new ≡ slip_length) where
  abbrev after : List ℕ
  after = stored bs (place (places bs) p c) new

  fits : slip_length * place (places bs) p c + slip_length ≤ length bs
  fits = let below = place_below (places bs) p c inside (omega arith) in omega arith

  same_length : length after ≡ length bs
  same_length = length-paste bs (slip_length * place (places bs) p c) new slip_length fits (omega arith)

  other : (k : ℕ) → k < c → slip_bytes_lem after (place (places bs) p k) ≡ slip_bytes_lem bs (place (places bs) p k)
  other k h = other_place bs new (place (places bs) p c) (place (places bs) p k) whole fits (place_apart (places bs) p k c inside space h)

  newest : slip_bytes_lem after (place (places bs) p c) ≡ new
  newest = part_same bs new (slip_length * place (places bs) p c) slip_length (omega (arith, fits)) whole

  module _ (s : Slip) (says : decode new ≡ Ok s) where
    readable_put : Readable bs p c → Readable after p (c + 1)
    readable_put r =
        rw same_length (below_more _ c (λ k h. ap (λ (xs : List ℕ). is_ok (decode xs)) (other k h) ∙ r k h) (ap (λ (xs : List ℕ). is_ok (decode xs)) newest ∙ ap is_ok says))

    ring_put : ring after p (c + 1) ≡ ring bs p c ++ (s ∷ [])
    ring_put =
        let f : ℕ → Slip = λ k. slip_at after (place (places bs) p k) in
        let g : ℕ → Slip = λ k. slip_at bs (place (places bs) p k) in
        let e : map f (range_with_len 0 c) ≡ ring bs p c = same_counted f g 0 c s (λ k h. let up : 0 + k ≡ k = omega arith in ap f up ∙ ap (λ (xs : List ℕ). slip_read (decode xs)) (other k h)) in
        let z : f c ≡ s = ap (λ (xs : List ℕ). slip_read (decode xs)) newest ∙ ap slip_read says in
        rw same_length (map-range_with_len_more f 0 c c (omega arith) ∙ ap (λ (xs : List Slip). xs ++ (f c ∷ [])) e ∙ ap (λ (x : Slip). ring bs p c ++ (x ∷ [])) z)

-- the slip s was written at the place after the newest slip: it waits last
pub record Put (bs : List ℕ) (p c : ℕ) (s : Slip) (at : List ℕ) : Type 0 where
  pub readable : Readable at p (c + 1)
  pub ring : ring at p (c + 1) ≡ ring bs p c ++ (s ∷ [])

pub put_slip : (bs out : List ℕ) (p c q k : ℕ) (s : Slip) → p < places bs → c < places bs → q ≡ place (places bs) p c → k ≡ slip_length → out ≡ encode s → InForm s → s.serial < 2 ^ 32 → Readable bs p c → Put bs p c s (put_mid (slip_length * q) k bs out)
put_slip bs out p c q k s inside space place width written formed fits r =
    let says = reads_back s formed fits in
    let bytes = put_mid-paste (slip_length * q) k bs out (encode s) slip_length written (sym width) refl in
    rw (bytes, place) (record { readable = readable_put bs (encode s) p c inside space refl s says r; ring = ring_put bs (encode s) p c inside space refl s says })

-- the oldest of the slips can be read, and goes
module _ (bs : List ℕ) (p c : ℕ) (inside : p < places bs) (some : 0 < c) (few : c ≤ places bs) where
  pub oldest_reads : Readable bs p c → is_ok (decode (slip_bytes_lem bs p)) ≡ true
  oldest_reads r = ap (λ (q : ℕ). is_ok (decode (slip_bytes_lem bs q))) (sym (place_none (places bs) p inside)) ∙ r 0 some

  pub readable_take : (q : ℕ) → q ≡ place (places bs) p 1 → Readable bs p c → Readable bs q (c - 1)
  readable_take q next r = rw next (λ k h. ap (λ (q : ℕ). is_ok (decode (slip_bytes_lem bs q))) (place_next (places bs) p k inside (omega arith)) ∙ r (k + 1) (omega arith))

  pub ring_take : (s : Slip) → decode (slip_bytes_lem bs p) ≡ Ok s → OldestFirst (ring bs p c) (Some s) (ring bs (place (places bs) p 1) (c - 1))
  ring_take s h = let all : c ≡ suc (c - 1) = omega arith in subst (λ (n : ℕ). OldestFirst (ring bs p n) (Some s) (ring bs (place (places bs) p 1) (c - 1))) (sym all) (first, rest)
    where
      first : Some s ≡ Some (slip_at bs (place (places bs) p 0))
      first = ap (λ r. Some (slip_read r)) (sym h) ∙ ap (λ (q : ℕ). Some (slip_at bs q)) (sym (place_none (places bs) p inside))

      rest : ring bs (place (places bs) p 1) (c - 1) ≡ map (λ k. slip_at bs (place (places bs) p k)) (range_with_len 1 (c - 1))
      rest =
          sym (same_counted (λ k. slip_at bs (place (places bs) p k)) (λ k. slip_at bs (place (places bs) (place (places bs) p 1) k)) 1 (c - 1) s
          (λ k x. let up : 1 + k ≡ k + 1 = omega arith in ap (λ (j : ℕ). slip_at bs (place (places bs) p j)) up ∙ ap (slip_at bs) (sym (place_next (places bs) p k inside (omega arith)))))

-- an empty ring has none to take
pub ring_empty : (xs : List Slip) → length xs ≡ 0 → OldestFirst xs None xs
ring_empty [] h = (refl, refl)
ring_empty (x ∷ xs) h = absurd (omega arith)
