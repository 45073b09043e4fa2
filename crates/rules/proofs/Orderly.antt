-- The rows of one end stay in order, whatever is called there.
use Rattle.std.proofs.Common.{◌≡◌, ℕ, ◌+◌, ◌<◌, ◌≤◌, Bool, true, false, ◌&&◌, eqb, List, [], ◌∷◌, ◌++◌, map, length, Some, None, Option, sym, refl, subst, arith}
use Rattle.rules.proofs.Newest.{renewed_map, restate}
use Rattle.rules.proofs.Tools.{all_both, all_keeping, all_map, all_push, all_weaker, length_keeping, pairs_keeping, pairs_map, pairs_push, test}
use Rattle.std.proofs.lemmas.List.{length-append, length-map}
use Rattle.rules.specs.Ends.{Kept, idle, is_in_lem, is_stop, newest_to, own_of_train, with_own, with_promised}
use Rattle.rules.specs.Lists.{All, Pairwise, find, keeping, newest}
use Rattle.rules.specs.Moves.{Done, all_in, arrive_of, arrived, enter_of, entered, go_in_lem, held, held_as, held_of, is_some, new_row, present_of, presented, show_of, shown, with_asking, withdraw_of, withdraw_row, withdrawn}
use Rattle.rules.specs.Safe.{HeldAs, Lower, Older, RowRules, Shows}
use Rattle.rules.specs.declared.rows.HeldRow.{HeldRow}
use Rattle.rules.specs.declared.rows.OwnRow.{OwnRow}
use Rattle.rules.specs.declared.rows.Permission.{Permission}
use Rattle.rules.specs.declared.rows.PromisedRow.{PromisedRow}
use Rattle.rules.specs.declared.rows.RowState.{RowState}
use Rattle.rules.specs.declared.rows.RowState.TheVariants.{Asking, Held, In, Withdrawing}
use Rattle.rules.specs.Ends.{Signal}
use Rattle.rules.specs.declared.rows.Word.{Word}
use Rattle.slip.specs.Trains.{same_train}
use Rattle.slip.specs.declared.track.Class.{Class}
use Rattle.slip.specs.declared.track.Train.{Train}

-- the row rules, and that no own row is beyond the last used and no promised row beyond the last heard
pub record Orderly (k : Kept) : Type 0 where
  pub rules : RowRules k
  pub used : All (λ r. r.serial ≤ k.used) k.own
  pub heard : All (λ p. p.serial ≤ k.heard) k.promised

pub idle_orderly : (start : ℕ) → Orderly (idle start)
idle_orderly start = record { rules = record { own_order = tt; own_few = omega arith; promised_order = tt; promised_few = omega arith; signal = tt }; used = tt; heard = tt }

-- a signal stands at Stop unless the newest row is Held
pub stops : (k : Kept) (r : OwnRow) → newest k.own ≡ Some r → ((kind : Permission) → r.state ≡ Held kind → ⊥) → Orderly k → k.signal ≡ None
stops k r e n o = go k.signal (subst (λ (x : Option OwnRow). Shows x k.signal) e o.rules.signal)
  where
    go : (g : Signal) → Shows (Some r) g → g ≡ None
    go None h = refl
    go (Some kind) h = absurd (n kind h)

empty_stops : (own : List OwnRow) (g : Signal) → newest own ≡ None → Shows (newest own) g → g ≡ None
empty_stops own None e h = refl
empty_stops own (Some kind) e h = absurd (subst (λ (x : Option OwnRow). Shows x (Some kind)) e h)

-- own rows change

abbrev pub InStays : (ℕ → RowState → RowState) → Type 0
InStays g = (s : ℕ) (kind : Permission) → g s (In kind) ≡ In kind

still_in : (g : ℕ → RowState → RowState) → InStays g → (s : ℕ) (st : RowState) → is_in_lem st ≡ true → is_in_lem (g s st) ≡ true
still_in g h s Asking e = absurd (grind (arith, e))
still_in g h s (Held k) e = absurd (grind (arith, e))
still_in g h s (In k) e = rw (h s k)
still_in g h s Withdrawing e = absurd (grind (arith, e))

changed : (k : Kept) (g : ℕ → RowState → RowState) → InStays g → Orderly k → Orderly (with_own k (map (restate g) k.own) None)
changed k g h o = record {
  rules = record {
    own_order = pairs_map Older Older (restate g) (λ r q b. record { serial = b.serial; gone_in = still_in g h r.serial r.state b.gone_in; train = b.train }) k.own o.rules.own_order;
    own_few = omega (arith, length-map k.own (restate g), o.rules.own_few);
    promised_order = o.rules.promised_order;
    promised_few = o.rules.promised_few;
    signal = tt;
  };
  used = all_map (λ r. r.serial ≤ k.used) (restate g) k.own o.used;
  heard = o.heard;
}

-- the newest row changes, and the signal stands at Stop
pub renewed_orderly : (k : Kept) (g : ℕ → RowState → RowState) → InStays g → (r : OwnRow) (st : RowState) → newest k.own ≡ Some r → g r.serial r.state ≡ st → Orderly k → Orderly (with_own k (newest_to k r st) None)
renewed_orderly k g h r st e f o = subst (λ (l : List OwnRow). Orderly (with_own k l None)) (sym (renewed_map g h k.own r st o.rules.own_order e f)) (changed k g h o)

pub fewer : (k : Kept) (t : OwnRow → Bool) (g : Signal) → Shows (newest (keeping t k.own)) g → Orderly k → Orderly (with_own k (keeping t k.own) g)
fewer k t g h o = record {
  rules = record {
    own_order = pairs_keeping Older t k.own o.rules.own_order;
    own_few = omega (arith, length_keeping t k.own, o.rules.own_few);
    promised_order = o.rules.promised_order;
    promised_few = o.rules.promised_few;
    signal = h;
  };
  used = all_keeping (λ r. r.serial ≤ k.used) (λ r. r.serial ≤ k.used) t (λ r e h. h) k.own o.used;
  heard = o.heard;
}

-- promised rows change
pub with_rows : (k : Kept) (ps : List PromisedRow) (H : ℕ) → Pairwise Lower ps → length ps ≤ 4 → All (λ p. p.serial ≤ H) ps → Orderly k → Orderly (with_promised k ps H)
with_rows k ps H r f h o = record {
  rules = record { own_order = o.rules.own_order; own_few = o.rules.own_few; promised_order = r; promised_few = f; signal = o.rules.signal };
  used = o.used;
  heard = h;
}

-- ask

no_train : (t : Train) (own : List OwnRow) → is_some (find (own_of_train t) own) ≡ false → All (λ r. same_train r.train t ≡ false) own
no_train t [] e = tt
no_train t (r ∷ rs) e =
    test (own_of_train t r) (Some r) (find (own_of_train t) rs) (λ o. is_some o ≡ false → All (λ r. same_train r.train t ≡ false) (r ∷ rs))
    (λ z w. absurd (grind (arith, w))) (λ z w. (z, no_train t rs w)) e

pub everyone_in : (own : List OwnRow) → Pairwise Older own → all_in (newest own) ≡ true → All (λ r. is_in_lem r.state ≡ true) own
everyone_in [] p e = tt
everyone_in (r ∷ []) p e = (e, tt)
everyone_in (r ∷ (q ∷ rs)) p e = (p.0.0.gone_in, everyone_in (q ∷ rs) p.1 e)

ask_stops : (k : Kept) → all_in (newest k.own) ≡ true → Orderly k → k.signal ≡ None
ask_stops k e o = go (newest k.own) refl
  where
    not_held : (st : RowState) → is_in_lem st ≡ true → (kind : Permission) → st ≡ Held kind → ⊥
    not_held st h kind z = grind arith

    go : (x : Option OwnRow) → newest k.own ≡ x → k.signal ≡ None
    go None z = empty_stops k.own k.signal z o.rules.signal
    go (Some r) z = stops k r z (not_held r.state (subst (λ (x : Option OwnRow). all_in x ≡ true) z e)) o

pub ask_orderly : (k : Kept) (t : Train) (c : Class) → all_in (newest k.own) ≡ true → length k.own < 4 → is_some (find (own_of_train t) k.own) ≡ false → Orderly k → Orderly (with_asking (k.used + 1) t c k)
ask_orderly k t c e few none o = record {
  rules = record {
    own_order = pairs_push Older k.own (new_row (k.used + 1) t c) o.rules.own_order
        (all_both _ _ (λ r. Older r (new_row (k.used + 1) t c)) (λ r u b. record { serial = omega (arith, u); gone_in = b.0; train = b.1 }) k.own o.used
        (all_both _ _ (λ r. (is_in_lem r.state ≡ true) × (same_train r.train t ≡ false)) (λ r a b. (a, b)) k.own (everyone_in k.own o.rules.own_order e) (no_train t k.own none)));
    own_few = omega (arith, length-append k.own ((new_row (k.used + 1) t c) ∷ []), few);
    promised_order = o.rules.promised_order;
    promised_few = o.rules.promised_few;
    signal = subst (λ (g : Signal). Shows (newest (k.own ++ (new_row (k.used + 1) t c ∷ []))) g) (sym (ask_stops k e o)) tt;
  };
  used = all_push (λ r. r.serial ≤ k.used + 1) k.own (new_row (k.used + 1) t c) (all_weaker (λ r h. omega arith) k.own o.used) (omega arith);
  heard = o.heard;
}

-- withdraw, show, enter, present

abbrev pub withdrawing : ℕ → RowState → RowState
withdrawing s Asking = Withdrawing
withdrawing s (Held kind) = Withdrawing
withdrawing s (In kind) = In kind
withdrawing s Withdrawing = Withdrawing

abbrev pub going_in : ℕ → RowState → RowState
going_in s Asking = Asking
going_in s (Held kind) = In kind
going_in s (In kind) = In kind
going_in s Withdrawing = Withdrawing

pub withdraw_orderly : (place : ℕ) (k : Kept) → Orderly k → Orderly (withdrawn place k).1
withdraw_orderly place k o = go (newest k.own) refl
  where
    row : (r : OwnRow) (st : RowState) → newest k.own ≡ Some r → r.state ≡ st → Orderly (withdraw_row place k r st).1
    row r Asking e z = renewed_orderly k withdrawing (λ s kind. refl) r Withdrawing e (rw z) o
    row r (Held kind) e z = renewed_orderly k withdrawing (λ s kind. refl) r Withdrawing e (rw z) o
    row r (In kind) e z = o
    row r Withdrawing e z = o

    go : (x : Option OwnRow) → newest k.own ≡ x → Orderly (withdraw_of place k x).1
    go None e = o
    go (Some r) e = row r r.state e refl

-- the Held row is the newest
pub record IsHeld (k : Kept) (h : HeldRow) : Type 0 where
  pub newest : newest k.own ≡ Some h.row
  pub state : h.row.state ≡ Held h.permission

pub held_newest : (k : Kept) (h : HeldRow) → held k ≡ Some h → IsHeld k h
held_newest k h e = go (newest k.own) refl e
  where
    row : (r : OwnRow) (st : RowState) → newest k.own ≡ Some r → r.state ≡ st → held_as r st ≡ Some h → IsHeld k h
    row r Asking n z f = absurd (grind (arith, f))
    row r (Held kind) n z f = let w : record { row = r; permission = kind } ≡ h = cc in subst (IsHeld k) w (record { newest = n; state = z })
    row r (In kind) n z f = absurd (grind (arith, f))
    row r Withdrawing n z f = absurd (grind (arith, f))

    go : (x : Option OwnRow) → newest k.own ≡ x → held_of x ≡ Some h → IsHeld k h
    go None n f = absurd (grind (arith, f))
    go (Some r) n f = row r r.state n refl f

pub show_orderly : (place : ℕ) (k : Kept) → Orderly k → Orderly (shown place k).1
show_orderly place k o = go (held k) refl
  where
    go : (x : Option HeldRow) → held k ≡ x → Orderly (show_of place k x).1
    go None e = o
    go (Some h) e = let i = held_newest k h e in record {
      rules = record {
        own_order = o.rules.own_order;
        own_few = o.rules.own_few;
        promised_order = o.rules.promised_order;
        promised_few = o.rules.promised_few;
        signal = subst (λ (x : Option OwnRow). HeldAs h.permission x) (sym i.newest) i.state;
      };
      used = o.used;
      heard = o.heard;
    }

goes_in : (k : Kept) (h : HeldRow) → held k ≡ Some h → Orderly k → Orderly (go_in_lem k h).1
goes_in k h e o = let i = held_newest k h e in renewed_orderly k going_in (λ s kind. refl) h.row (In h.permission) i.newest (rw i.state) o

pub enter_orderly : (place : ℕ) (t : Train) (k : Kept) → Orderly k → Orderly (entered place t k).1
enter_orderly place t k o = go (held k) refl
  where
    go : (x : Option HeldRow) → held k ≡ x → Orderly (enter_of place t k x).1
    go None e = o
    go (Some h) e = test (same_train h.row.train t) _ _ (λ (d : Done Word). Orderly d.1) (λ z. test (is_stop k.signal) _ _ (λ (d : Done Word). Orderly d.1) (λ w. o) (λ w. goes_in k h e o)) (λ z. o)

pub present_orderly : (place serial : ℕ) (t : Train) (k : Kept) → Orderly k → Orderly (presented place serial t k).1
present_orderly place serial t k o = go (held k) refl
  where
    go : (x : Option HeldRow) → held k ≡ x → Orderly (present_of place serial t k x).1
    go None e = o
    go (Some h) e = test (eqb h.row.serial serial && same_train h.row.train t) _ _ (λ (d : Done Word). Orderly d.1) (λ z. goes_in k h e o) (λ z. o)

-- arrive

pub arrive_orderly : (place : ℕ) (t : Train) (k : Kept) → Orderly k → Orderly (arrived place t k).1
arrive_orderly place t k o = go k.promised refl
  where
    rest : (p : PromisedRow) (ps : List PromisedRow) → k.promised ≡ p ∷ ps → Orderly (with_promised k ps k.heard)
    rest p ps e =
        let r : Pairwise Lower (p ∷ ps) = subst (Pairwise Lower) e o.rules.promised_order in
        let f : length (p ∷ ps) ≤ 4 = subst (λ (l : List PromisedRow). length l ≤ 4) e o.rules.promised_few in
        let h : All (λ p. p.serial ≤ k.heard) (p ∷ ps) = subst (All (λ p. p.serial ≤ k.heard)) e o.heard in
        with_rows k ps k.heard r.1 (omega (arith, f)) h.1 o

    go : (ps : List PromisedRow) → k.promised ≡ ps → Orderly (arrive_of place t k ps).1
    go [] e = o
    go (p ∷ ps) e = test (same_train p.train t) _ _ (λ (d : Done Word). Orderly d.1) (λ z. test p.reported _ _ (λ (d : Done Word). Orderly d.1) (λ w. rest p ps e) (λ w. o)) (λ z. o)
