-- Writing a slip and reading it undo each other.
use Rattle.std.proofs.Common.{◌≡◌, ℕ, ◌+◌, ◌*◌, ◌/◌, ◌%◌, ◌^◌, ◌<◌, Bool, true, false, cond, eqb, leb, List, [], ◌∷◌, length, get_or, Some, None, Ok, Err, Option, Result, sym, refl, subst, arith}
use Rattle.slip.specs.Bytes.{ReadsBack, WritesBack, bare, class_byte, decode, digit, encode, field, message_of, serial_in, slip_of_lem, slip_to, slip_with, train_in, train_number_lem, wanted_by, wanted_of}
use Rattle.slip.specs.Form.{InForm, bad_slip, good_train}
use Rattle.slip.specs.Numbers.{class_letter_lem, class_of, end_number, end_of, kind_number, kind_of, message_kind}
use Rattle.slip.specs.Trains.{known_train_lem}
use Rattle.slip.specs.declared.fault.Fault.{Fault}
use Rattle.slip.specs.declared.paper.Message.{Message}
use Rattle.slip.specs.declared.paper.Slip.{Slip}
use Rattle.slip.specs.declared.paper.SlipKind.{SlipKind}
use Rattle.slip.specs.declared.track.Class.{Class}
use Rattle.slip.specs.declared.track.Class.TheVariants.{Freight, Light, Passenger, Work}
use Rattle.slip.specs.declared.track.End.{End}
use Rattle.slip.specs.declared.track.End.TheVariants.{East, West}
use Rattle.slip.specs.declared.track.Train.{Train}
use Rattle.std.proofs.lemmas.Bool.{eqb-true}
use Rattle.std.proofs.lemmas.Bool.Decides.{nat_tests}
use native.Mathlib.Nat.{div-div-eq-div-mul}

-- the tables, there and back

kind_back : (k : SlipKind) → kind_of (kind_number k) ≡ Some k
kind_back SlipKind.Wanted = refl
kind_back SlipKind.Clear = refl
kind_back SlipKind.Permissive = refl
kind_back SlipKind.NotClear = refl
kind_back SlipKind.Entered = refl
kind_back SlipKind.Out = refl
kind_back SlipKind.Withdraw = refl
kind_back SlipKind.Released = refl

end_back : (e : End) → end_of (end_number e) ≡ Some e
end_back West = refl
end_back East = refl

class_back : (c : Class) → class_of (class_letter_lem c) ≡ Some c
class_back Passenger = refl
class_back Freight = refl
class_back Work = refl
class_back Light = refl

kind_forth : (n : ℕ) (k : SlipKind) → kind_of n ≡ Some k → kind_number k ≡ n
kind_forth n k h = grind (arith, nat_tests)

end_forth : (n : ℕ) (e : End) → end_of n ≡ Some e → end_number e ≡ n
end_forth n e h = grind (arith, nat_tests)

class_forth : (n : ℕ) (c : Class) → class_of n ≡ Some c → class_letter_lem c ≡ n
class_forth n c h = grind (arith, nat_tests)

-- numbers of two and of four bytes

two_back : (n : ℕ) → n < 2 ^ 16 → digit n 256 * 256 + n % 256 ≡ n
two_back n h = omega arith

four_steps : (n a b c : ℕ) → a ≡ n / 256 → b ≡ a / 256 → c ≡ b / 256 → n < 2 ^ 32 → (c % 256) * 16777216 + (b % 256) * 65536 + (a % 256) * 256 + n % 256 ≡ n
four_steps n a b c p q r h =
    let x : n ≡ a * 256 + n % 256 = omega arith in
    let y : a ≡ b * 256 + a % 256 = omega arith in
    let z : b ≡ c * 256 + b % 256 = omega arith in
    let w : c < 256 = omega arith in
    let v : c % 256 ≡ c = omega arith in
    omega (arith, x, y, z, v)

four_back : (n : ℕ) → n < 2 ^ 32 → digit n 16777216 * 16777216 + digit n 65536 * 65536 + digit n 256 * 256 + n % 256 ≡ n
four_back n h =
    let p : n / 65536 ≡ n / 256 / 256 = sym (div-div-eq-div-mul n 256 256) in
    let q : n / 16777216 ≡ n / 65536 / 256 = sym (div-div-eq-div-mul n 65536 256) in
    four_steps n (n / 256) (n / 65536) (n / 16777216) refl p q h

two_forth : (a b : ℕ) → a < 256 → b < 256 → (digit (a * 256 + b) 256 ≡ a) × ((a * 256 + b) % 256 ≡ b)
two_forth a b p q = (omega arith, omega arith)

four_forth : (a b c d : ℕ) → a < 256 → b < 256 → c < 256 → d < 256 → let n : ℕ = a * 16777216 + b * 65536 + c * 256 + d in (digit n 16777216 ≡ a) × (digit n 65536 ≡ b) × (digit n 256 ≡ c) × (n % 256 ≡ d)
four_forth a b c d p q r s = (omega arith, omega arith, omega arith, omega arith)

-- the message, there and back

short : (m : Message) → good_train m ≡ true → train_number_lem m < 2 ^ 16
short (Message.Wanted t c) h = grind (arith, nat_tests)
short Message.Clear h = omega arith
short Message.Permissive h = omega arith
short Message.NotClear h = omega arith
short Message.Entered h = omega arith
short Message.Out h = omega arith
short Message.Withdraw h = omega arith
short Message.Released h = omega arith

message_back : (m : Message) → good_train m ≡ true → message_of (message_kind m) (class_byte m) (train_number_lem m) ≡ Ok m
message_back (Message.Wanted t c) h = rw (class_back c, h)
message_back Message.Clear h = refl
message_back Message.Permissive h = refl
message_back Message.NotClear h = refl
message_back Message.Entered h = refl
message_back Message.Out h = refl
message_back Message.Withdraw h = refl
message_back Message.Released h = refl

-- what a message that was read tells of the fields
pub record Told (k : SlipKind) (letter number : ℕ) (m : Message) : Type 0 where
  pub kind : message_kind m ≡ k
  pub class : class_byte m ≡ letter
  pub train : train_number_lem m ≡ number
  pub good : good_train m ≡ true

field_ok : {X Y : Type 0} (p : ℕ) (o : Option X) (f : X → Result Y Fault) (y : Y) → field p o f ≡ Ok y → (x : X) × (o ≡ Some x) × (f x ≡ Ok y)
field_ok p None f y h = let z : ◌≡◌ {A = ℕ} 0 1 = cc in absurd (omega arith)
field_ok p (Some x) f y h = (x, refl, h)

if_ok : {Y : Type 0} (b : Bool) (r : Result Y Fault) (e : Fault) (y : Y) → cond b r (Err e) ≡ Ok y → (b ≡ true) × (r ≡ Ok y)
if_ok true r e y h = (refl, h)
if_ok false r e y h = let z : ◌≡◌ {A = ℕ} 0 1 = cc in absurd (omega arith)

wanted_told : (letter number : ℕ) (m : Message) → wanted_of letter number ≡ Ok m → Told SlipKind.Wanted letter number m
wanted_told letter number m h =
    let c = field_ok 4 (class_of letter) (wanted_by number) m h in
    let t : Train = record { number = number } in
    let k = if_ok (known_train_lem t) (Ok (Message.Wanted t c.0)) (bad_slip 5) m c.2 in
    let is : Message.Wanted t c.0 ≡ m = let g = k.1 in cc in
    let f = class_forth letter c.0 c.1 in
    subst (Told SlipKind.Wanted letter number) is (record { kind = refl; class = f; train = refl; good = k.0 })

bare_told : (b : Message) (k : SlipKind) (letter number : ℕ) (m : Message) → message_kind b ≡ k → class_byte b ≡ 0 → train_number_lem b ≡ 0 → good_train b ≡ true → bare b letter number ≡ Ok m → Told k letter number m
bare_told b k letter number m p q r s h =
    let x = if_ok (eqb letter 0) (cond (eqb number 0) (Ok b) (Err (bad_slip 5))) (bad_slip 4) m h in
    let y = if_ok (eqb number 0) (Ok b) (bad_slip 5) m x.1 in
    let is : b ≡ m = let g = y.1 in cc in
    let l : letter ≡ 0 = eqb-true letter 0 x.0 in
    let n : number ≡ 0 = eqb-true number 0 y.0 in
    subst (Told k letter number) is (record { kind = p; class = cc; train = cc; good = s })

message_told : (k : SlipKind) (letter number : ℕ) (m : Message) → message_of k letter number ≡ Ok m → Told k letter number m
message_told SlipKind.Wanted l n m h = wanted_told l n m h
message_told SlipKind.Clear l n m h = bare_told Message.Clear SlipKind.Clear l n m refl refl refl refl h
message_told SlipKind.Permissive l n m h = bare_told Message.Permissive SlipKind.Permissive l n m refl refl refl refl h
message_told SlipKind.NotClear l n m h = bare_told Message.NotClear SlipKind.NotClear l n m refl refl refl refl h
message_told SlipKind.Entered l n m h = bare_told Message.Entered SlipKind.Entered l n m refl refl refl refl h
message_told SlipKind.Out l n m h = bare_told Message.Out SlipKind.Out l n m refl refl refl refl h
message_told SlipKind.Withdraw l n m h = bare_told Message.Withdraw SlipKind.Withdraw l n m refl refl refl refl h
message_told SlipKind.Released l n m h = bare_told Message.Released SlipKind.Released l n m refl refl refl refl h

-- the whole slip

pub reads_back : ReadsBack
reads_back s h w =
    let block : leb s.block 14 ≡ true = grind (arith, nat_tests, h) in
    let good : good_train s.message ≡ true = grind (arith, nat_tests, h) in
    let k = kind_back (message_kind s.message) in
    let e = end_back s.to in
    let t = two_back (train_number_lem s.message) (short s.message good) in
    let m = message_back s.message good in
    let n = four_back s.serial w in
    simp (k, block, e, t, m, n)

-- what reading a slip tells of its bytes
pub record Said (bs : List ℕ) (s : Slip) : Type 0 where
  pub kind : SlipKind
  pub message : Message
  pub long : length bs ≡ 10
  pub kind_is : kind_of (get_or bs 0 0) ≡ Some kind
  pub block_is : leb (get_or bs 1 0) 14 ≡ true
  pub end : End
  pub end_is : end_of (get_or bs 2 0) ≡ Some end
  pub told : Told kind (get_or bs 3 0) (train_in bs) message
  pub is : record { block = get_or bs 1 0; to = end; message = message; serial = serial_in bs } ≡ s

with_ok : (bs : List ℕ) (e : End) (r : Result Message Fault) (s : Slip) → slip_with bs e r ≡ Ok s → (m : Message) × (r ≡ Ok m) × (record { block = get_or bs 1 0; to = e; message = m; serial = serial_in bs } ≡ s)
with_ok bs e (Ok m) s h = (m, refl, cc)
with_ok bs e (Err f) s h = let z : ◌≡◌ {A = ℕ} 0 1 = cc in absurd (omega arith)

said : (bs : List ℕ) (s : Slip) → decode bs ≡ Ok s → Said bs s
said bs s h =
    let l = if_ok (eqb (length bs) 10) (field 1 (kind_of (get_or bs 0 0)) (slip_of_lem bs)) (bad_slip 0) s h in
    let k = field_ok 1 (kind_of (get_or bs 0 0)) (slip_of_lem bs) s l.1 in
    let b = if_ok (leb (get_or bs 1 0) 14) (field 3 (end_of (get_or bs 2 0)) (slip_to bs k.0)) (bad_slip 2) s k.2 in
    let e = field_ok 3 (end_of (get_or bs 2 0)) (slip_to bs k.0) s b.1 in
    let m = with_ok bs e.0 (message_of k.0 (get_or bs 3 0) (train_in bs)) s e.2 in
    record {
      kind = k.0;
      message = m.0;
      long = eqb-true (length bs) 10 l.0;
      kind_is = k.1;
      block_is = b.0;
      end = e.0;
      end_is = e.1;
      told = message_told k.0 (get_or bs 3 0) (train_in bs) m.0 m.1;
      is = m.2;
    }

pub reads_formed : (bs : List ℕ) (s : Slip) → decode bs ≡ Ok s → InForm s
reads_formed bs s h =
    let v = said bs s h in
    subst InForm v.is (simp (v.block_is, v.told.good))

pub ten : (bs : List ℕ) → length bs ≡ 10 → get_or bs 0 0 ∷ get_or bs 1 0 ∷ get_or bs 2 0 ∷ get_or bs 3 0 ∷ get_or bs 4 0 ∷ get_or bs 5 0 ∷ get_or bs 6 0 ∷ get_or bs 7 0 ∷ get_or bs 8 0 ∷ get_or bs 9 0 ∷ [] ≡ bs
ten [] p = absurd (omega arith)
ten (a ∷ []) p = absurd (omega arith)
ten (a ∷ b ∷ []) p = absurd (omega arith)
ten (a ∷ b ∷ c ∷ []) p = absurd (omega arith)
ten (a ∷ b ∷ c ∷ d ∷ []) p = absurd (omega arith)
ten (a ∷ b ∷ c ∷ d ∷ e ∷ []) p = absurd (omega arith)
ten (a ∷ b ∷ c ∷ d ∷ e ∷ f ∷ []) p = absurd (omega arith)
ten (a ∷ b ∷ c ∷ d ∷ e ∷ f ∷ g ∷ []) p = absurd (omega arith)
ten (a ∷ b ∷ c ∷ d ∷ e ∷ f ∷ g ∷ h ∷ []) p = absurd (omega arith)
ten (a ∷ b ∷ c ∷ d ∷ e ∷ f ∷ g ∷ h ∷ i ∷ []) p = absurd (omega arith)
ten (a ∷ b ∷ c ∷ d ∷ e ∷ f ∷ g ∷ h ∷ i ∷ j ∷ []) p = refl
ten (a ∷ b ∷ c ∷ d ∷ e ∷ f ∷ g ∷ h ∷ i ∷ j ∷ k ∷ ks) p = absurd (omega arith)

pub writes_back : WritesBack
writes_back bs s b h =
    let v = said bs s h in
    let len = v.long in
    let at : (i : ℕ) → i < 10 → get_or bs i 0 < 256 = λ i p. b i (omega arith) in
    let kf = kind_forth (get_or bs 0 0) v.kind v.kind_is in
    let ef = end_forth (get_or bs 2 0) v.end v.end_is in
    let kt = v.told.kind in
    let ct = v.told.class in
    let tt' = v.told.train in
    let tf = two_forth (get_or bs 4 0) (get_or bs 5 0) (at 4 (omega arith)) (at 5 (omega arith)) in
    let nf = four_forth (get_or bs 6 0) (get_or bs 7 0) (get_or bs 8 0) (get_or bs 9 0) (at 6 (omega arith)) (at 7 (omega arith)) (at 8 (omega arith)) (at 9 (omega arith)) in
    let all = ten bs len in
    let w : Slip = record { block = get_or bs 1 0; to = v.end; message = v.message; serial = serial_in bs } in
    let made : encode w ≡ bs = cc (tf.0, tf.1, nf.0, nf.1, nf.2, nf.3) in
    (subst (λ (x : Slip). encode x ≡ bs) v.is made, reads_formed bs s h)
