-- The direction that an end gives in, where its promised rows change.
use Rattle.std.proofs.Common.{◌≡◌, ℕ, ◌<◌, ◌≤◌, Bool, true, not, eqb, List, [], ◌∷◌, ◌++◌, map, refl, ap, inl, inr, arith}
use Rattle.rules.proofs.Sound.{Asked, Backs, GrantedAt, InAt, Is, NotAt, RowOk, Rows, SlipOk}
use Rattle.rules.proofs.Tools.{all_both, all_keeping, all_map, all_push, all_weaker, any_all, any_keeping, any_left, any_map, any_out, any_push, any_weaker, test}
use Rattle.rules.specs.Ends.{is_asking, is_in_lem, promise_of}
use Rattle.rules.specs.Hearing.{giving, marked, new_promise}
use Rattle.rules.specs.Lists.{All, Any, Pairwise, keeping}
use Rattle.rules.specs.Safe.{Lower, Older}
use Rattle.rules.specs.declared.rows.OwnRow.{OwnRow}
use Rattle.rules.specs.declared.rows.Permission.{Permission}
use Rattle.rules.specs.declared.rows.PromisedRow.{PromisedRow}
use Rattle.rules.specs.declared.rows.RowState.{RowState}
use Rattle.rules.specs.declared.rows.RowState.TheVariants.{Asking, Held, In, Withdrawing}
use Rattle.slip.specs.declared.paper.Message.{Message}
use Rattle.slip.specs.declared.track.Class.{Class}
use Rattle.slip.specs.declared.track.Train.{Train}

-- the last heard rises

row_hear : (H s : ℕ) (ps : List PromisedRow) (q : ℕ) (st : RowState) → H ≤ s → RowOk H ps q st → RowOk s ps q st
row_hear H s ps q Asking l h = h
row_hear H s ps q (Held k) l h = (omega (arith, h.0), h.1)
row_hear H s ps q (In k) l h = omega arith
row_hear H s ps q Withdrawing l h = h

module _ (own : List OwnRow) (U : ℕ) (ps : List PromisedRow) (H : ℕ) (s : ℕ) (l : H ≤ s) (u : s ≤ U) where
  pub hear_rows : Rows own U ps H → Rows own U ps s
  hear_rows i = record { rows = all_weaker (λ r h. row_hear H s ps r.serial r.state l h) own i.rows; bound = u; backed = i.backed }

  pub hear_slips : (q : ℕ) (m : Message) → SlipOk own U ps H q m → SlipOk own U ps s q m
  hear_slips q (Message.Wanted n k) h = (h.0, λ m. h.1 (omega arith))
  hear_slips q Message.Clear h = (omega (arith, h.0), h.1)
  hear_slips q Message.Permissive h = (omega (arith, h.0), h.1)
  hear_slips q Message.NotClear h = (omega (arith, h.0), h.1)
  hear_slips q Message.Entered h = (omega (arith, h.0), h.1)
  hear_slips q Message.Out h = (omega (arith, h.0), h.1)
  hear_slips q Message.Withdraw h = h
  hear_slips q Message.Released h = (omega (arith, h.0), h.1)

pub unpromised : (s : ℕ) (ps : List PromisedRow) (H : ℕ) → H < s → All (λ p. p.serial ≤ H) ps → All (NotAt s) ps
unpromised s ps H l a = all_weaker (λ p h e. omega arith) ps a

-- a reply that gives is good where its row is promised
granted_all : (ps : List PromisedRow) (s : ℕ) (k : Permission) → Any (Is s k) ps → (own : List OwnRow) → All (GrantedAt ps s k) own
granted_all ps s k a [] = tt
granted_all ps s k a (r ∷ rs) = (λ e z. a, granted_all ps s k a rs)

pub giving_ok : (own : List OwnRow) (U : ℕ) (ps : List PromisedRow) (H : ℕ) (s : ℕ) (k : Permission) → s ≤ H → Any (Is s k) ps → SlipOk own U ps H s (giving k)
giving_ok own U ps H s Permission.Clear l a = (l, granted_all ps s Permission.Clear a own)
giving_ok own U ps H s Permission.Permissive l a = (l, granted_all ps s Permission.Permissive a own)

-- WANTED heard above the last heard, and promised

module _ (own : List OwnRow) (U : ℕ) (ps : List PromisedRow) (H : ℕ) (s : ℕ) (t : Train) (c : Class) (k : Permission) (l : H < s) (w : SlipOk own U ps H s (Message.Wanted t c)) where
  row_promise : (q : ℕ) (st : RowState) → RowOk H ps q st → RowOk s (ps ++ (new_promise s t c k ∷ [])) q st
  row_promise q Asking h = h
  row_promise q (Held j) h = (omega (arith, h.0), any_left (Is q j) ps (new_promise s t c k ∷ []) h.1)
  row_promise q (In j) h = omega arith
  row_promise q Withdrawing h = h

  pub promise_rows : Rows own U ps H → Rows own U (ps ++ (new_promise s t c k ∷ [])) s
  promise_rows i = record {
    rows = all_weaker (λ r h. row_promise r.serial r.state h) own i.rows;
    bound = w.0;
    backed = all_push (λ p. Any (Backs p) own) ps (new_promise s t c k) i.backed
        (any_weaker (Asked s t c) (Backs (new_promise s t c k)) (λ r a. record { same = a.same; train = a.train; class = a.class; went = λ e. absurd (grind (arith, e)) }) own (w.1 l));
  }

  fresh_one : (q : ℕ) → q ≤ H → All (NotAt q) ps → All (NotAt q) (ps ++ (new_promise s t c k ∷ []))
  fresh_one q m a = all_push (NotAt q) ps (new_promise s t c k) a (λ e. omega arith)

  more_grant : (q : ℕ) (j : Permission) → All (GrantedAt ps q j) own → All (GrantedAt (ps ++ (new_promise s t c k ∷ [])) q j) own
  more_grant q j h = all_weaker (λ r f e a. any_left (Is q j) ps (new_promise s t c k ∷ []) (f e a)) own h

  pub promise_slips : (q : ℕ) (m : Message) → SlipOk own U ps H q m → SlipOk own U (ps ++ (new_promise s t c k ∷ [])) s q m
  promise_slips q (Message.Wanted n j) h = (h.0, λ m. h.1 (omega arith))
  promise_slips q Message.Clear h = (omega (arith, h.0), more_grant q Permission.Clear h.1)
  promise_slips q Message.Permissive h = (omega (arith, h.0), more_grant q Permission.Permissive h.1)
  promise_slips q Message.NotClear h = (omega (arith, h.0), fresh_one q h.0 h.1)
  promise_slips q Message.Entered h = (omega (arith, h.0), h.1)
  promise_slips q Message.Out h = (omega (arith, h.0), fresh_one q h.0 h.1)
  promise_slips q Message.Withdraw h = h
  promise_slips q Message.Released h = (omega (arith, h.0), fresh_one q h.0 h.1)

  pub promise_puts : SlipOk own U (ps ++ (new_promise s t c k ∷ [])) s s (giving k)
  promise_puts = giving_ok own U (ps ++ (new_promise s t c k ∷ [])) s s k (omega arith) (any_push (Is s k) ps (new_promise s t c k) (record { same = refl; kind = refl }))

-- ENTERED heard: row s is marked

module _ (own : List OwnRow) (U : ℕ) (ps : List PromisedRow) (H : ℕ) (s : ℕ) (w : SlipOk own U ps H s Message.Entered) where
  mark_any : (q : ℕ) (j : Permission) → Any (Is q j) ps → Any (Is q j) (map (marked s) ps)
  mark_any q j a = any_map (Is q j) (marked s) ps (any_weaker (Is q j) (λ p. Is q j (marked s p)) (λ p x. record { same = x.same; kind = x.kind }) ps a)

  row_mark : (q : ℕ) (st : RowState) → RowOk H ps q st → RowOk H (map (marked s) ps) q st
  row_mark q Asking h = h
  row_mark q (Held j) h = (h.0, mark_any q j h.1)
  row_mark q (In j) h = h
  row_mark q Withdrawing h = h

  pub mark_rows : Rows own U ps H → Rows own U (map (marked s) ps) H
  mark_rows i = record {
    rows = all_weaker (λ r h. row_mark r.serial r.state h) own i.rows;
    bound = i.bound;
    backed = all_map (λ p. Any (Backs p) own) (marked s) ps
        (all_weaker (λ p a. any_all (InAt s) (Backs p) (Backs (marked s p)) (λ r f b. grow p r f b) own w.1 a) ps i.backed);
  }
    where
      grow : (p : PromisedRow) (r : OwnRow) → InAt s r → Backs p r → Backs (marked s p) r
      grow p r f b = record {
        same = b.same;
        train = b.train;
        class = b.class;
        went = test (eqb p.serial s) true p.reported (λ x. x ≡ true → is_in_lem r.state ≡ true) (λ e z. f (grind (arith, b.same, e))) (λ e z. b.went z);
      }

  mark_none : (q : ℕ) → All (NotAt q) ps → All (NotAt q) (map (marked s) ps)
  mark_none q h = all_map (NotAt q) (marked s) ps h

  mark_grant : (q : ℕ) (j : Permission) → All (GrantedAt ps q j) own → All (GrantedAt (map (marked s) ps) q j) own
  mark_grant q j h = all_weaker (λ r f e a. mark_any q j (f e a)) own h

  pub mark_slips : (q : ℕ) (m : Message) → SlipOk own U ps H q m → SlipOk own U (map (marked s) ps) H q m
  mark_slips q (Message.Wanted n j) h = h
  mark_slips q Message.Clear h = (h.0, mark_grant q Permission.Clear h.1)
  mark_slips q Message.Permissive h = (h.0, mark_grant q Permission.Permissive h.1)
  mark_slips q Message.NotClear h = (h.0, mark_none q h.1)
  mark_slips q Message.Entered h = h
  mark_slips q Message.Out h = (h.0, mark_none q h.1)
  mark_slips q Message.Withdraw h = h
  mark_slips q Message.Released h = (h.0, mark_none q h.1)

-- promised row s goes: arrive, and WITHDRAW heard

abbrev pub Past : RowState → Type 0
Past Asking = ⊥
Past (Held k) = ⊥
Past (In k) = Unit {0}
Past Withdrawing = Unit {0}

abbrev pub besides : ℕ → PromisedRow → Bool
besides s p = not (promise_of s p)

other : (s : ℕ) (p : PromisedRow) → (p.serial ≡ s → ⊥) → besides s p ≡ true
other s p n = grind arith

pub gone : (s : ℕ) (ps : List PromisedRow) → All (NotAt s) (keeping (besides s) ps)
gone s [] = tt
gone s (p ∷ ps) = test (besides s p) (p ∷ keeping (besides s) ps) (keeping (besides s) ps) (All (NotAt s)) (λ e. (λ z. grind arith, gone s ps)) (λ e. gone s ps)

pub besides_head : (p : PromisedRow) (ps : List PromisedRow) → All (Lower p) ps → keeping (besides p.serial) (p ∷ ps) ≡ ps
besides_head p ps a = test (besides p.serial p) (p ∷ keeping (besides p.serial) ps) (keeping (besides p.serial) ps) (λ x. x ≡ ps) (λ e. absurd (grind arith)) (λ e. same ps a)
  where
    same : (qs : List PromisedRow) → All (Lower p) qs → keeping (besides p.serial) qs ≡ qs
    same [] b = refl
    same (q ∷ qs) b = test (besides p.serial q) (q ∷ keeping (besides p.serial) qs) (keeping (besides p.serial) qs) (λ x. x ≡ q ∷ qs) (λ e. ap (λ x. q ∷ x) (same qs b.1)) (λ e. absurd (grind (arith, b.0)))

module _ (own : List OwnRow) (U : ℕ) (ps : List PromisedRow) (H : ℕ) (s : ℕ) (w : All (λ r. r.serial ≡ s → Past r.state) own) where
  row_gone : (q : ℕ) (st : RowState) → (q ≡ s → Past st) → RowOk H ps q st → RowOk H (keeping (besides s) ps) q st
  row_gone q Asking n h = h
  row_gone q (Held j) n h = (h.0, any_keeping (Is q j) (besides s) (λ p x. other s p (λ e. n (omega (arith, x.same)))) ps h.1)
  row_gone q (In j) n h = h
  row_gone q Withdrawing n h = h

  pub gone_rows : Rows own U ps H → Rows own U (keeping (besides s) ps) H
  gone_rows i = record {
    rows = all_both _ _ (λ r. RowOk H (keeping (besides s) ps) r.serial r.state) (λ r n h. row_gone r.serial r.state n h) own w i.rows;
    bound = i.bound;
    backed = all_keeping (λ p. Any (Backs p) own) (λ p. Any (Backs p) own) (besides s) (λ p e h. h) ps i.backed;
  }

  gone_none : (q : ℕ) → All (NotAt q) ps → All (NotAt q) (keeping (besides s) ps)
  gone_none q h = all_keeping (NotAt q) (NotAt q) (besides s) (λ p e h. h) ps h

  gone_grant : (q : ℕ) (j : Permission) → All (GrantedAt ps q j) own → All (GrantedAt (keeping (besides s) ps) q j) own
  gone_grant q j h = all_both _ _ (GrantedAt (keeping (besides s) ps) q j)
      (λ r n f e a. any_keeping (Is q j) (besides s) (λ p x. other s p (λ z. past r.state a (n (omega (arith, x.same, e, z))))) ps (f e a)) own w h
    where
      past : (st : RowState) → is_asking st ≡ true → Past st → ⊥
      past st a b = grind arith

  pub gone_slips : (q : ℕ) (m : Message) → SlipOk own U ps H q m → SlipOk own U (keeping (besides s) ps) H q m
  gone_slips q (Message.Wanted n j) h = h
  gone_slips q Message.Clear h = (h.0, gone_grant q Permission.Clear h.1)
  gone_slips q Message.Permissive h = (h.0, gone_grant q Permission.Permissive h.1)
  gone_slips q Message.NotClear h = (h.0, gone_none q h.1)
  gone_slips q Message.Entered h = h
  gone_slips q Message.Out h = (h.0, gone_none q h.1)
  gone_slips q Message.Withdraw h = h
  gone_slips q Message.Released h = (h.0, gone_none q h.1)

-- what holds of the row of a serial holds of each row of that serial
pub one_row : (Q : OwnRow → Type 0) (s : ℕ) (own : List OwnRow) → Pairwise Older own → Any (λ r. (r.serial ≡ s) × Q r) own → All (λ r. r.serial ≡ s → Q r) own
one_row Q s [] p a = tt
one_row Q s (r ∷ rs) p (inl h) = ((λ e. h.1), all_weaker (λ q b e. absurd (omega (arith, b.serial, h.0))) rs p.0)
one_row Q s (r ∷ rs) p (inr h) =
    (λ e. absurd (any_out (Older r) (λ q. (q.serial ≡ s) × Q q) ⊥ (λ q b c. omega (arith, b.serial, c.0)) rs p.0 h), one_row Q s rs p.1 h)

-- the row of a reported promise is past
pub reported_past : (own : List OwnRow) (p : PromisedRow) → Pairwise Older own → Any (Backs p) own → p.reported ≡ true → All (λ r. r.serial ≡ p.serial → Past r.state) own
reported_past own p o a f = one_row (λ r. Past r.state) p.serial own o (any_weaker (Backs p) _ (λ r b. (b.same, in_past r.state (b.went f))) own a)
  where
    in_past : (st : RowState) → is_in_lem st ≡ true → Past st
    in_past st h = grind arith
