-- Every slip in a ring is in form, since its bytes can be read.
use Rattle.std.specs.Prelude.{◌≡◌, ℕ, ◌<◌, true, List, length, is_ok, Ok, Err, Result, refl}
use Rattle.slip.proofs.Trips.{reads_formed}
use Rattle.slip.specs.Bytes.{decode}
use Rattle.slip.specs.Form.{InForm}
use Rattle.slip.specs.declared.fault.Fault.{Fault}
use Rattle.slip.specs.declared.paper.Slip.{Slip}
use Rattle.std.proofs.lemmas.List.FromFn.{get_or-map-range_with_len, length-map-range_with_len}
use Rattle.std.proofs.lemmas.Bool.{false≢true}
use Rattle.telegraph.specs.Ring.{Readable, place, places, ring, slip_at, slip_bytes_lem, slip_read}
use Rattle.wire.specs.Waiting.{Formed}
use Rattle.std.proofs.Common.{subst, sym, arith}

pub length_ring : (bs : List ℕ) (first count : ℕ) → length (ring bs first count) ≡ count
length_ring bs first count = length-map-range_with_len (λ k. slip_at bs (place (places bs) first k)) 0 count

formed_read : (r : Result Slip Fault) → ((s : Slip) → r ≡ Ok s → InForm s) → is_ok r ≡ true → InForm (slip_read r)
formed_read (Ok s) h o = h s refl
formed_read (Err f) h o = absurd (false≢true o)

pub formed_ring : (bs : List ℕ) (first count : ℕ) → Readable bs first count → Formed (ring bs first count)
formed_ring bs first count r =
    (λ k d h.
    let y : k < count = omega (arith, length_ring bs first count) in
    let bytes : List ℕ = slip_bytes_lem bs (place (places bs) first k) in
    subst InForm (sym (get_or-map-range_with_len (λ j. slip_at bs (place (places bs) first j)) 0 count k k d y (omega arith))) (formed_read (decode bytes) (reads_formed bytes) (r k y)))
