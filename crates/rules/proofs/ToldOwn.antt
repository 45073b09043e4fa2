-- The tally of the direction that an end asks in, where its own rows change.
use Rattle.std.proofs.Common.{◌≡◌, ℕ, ◌+◌, ◌≤◌, Bool, true, eqb, List, [], ◌∷◌, ◌++◌, map, Some, refl, arith}
use Rattle.book.specs.Books.{Book}
use Rattle.rules.proofs.Newest.{restate}
use Rattle.rules.proofs.Sound.{InAt}
use Rattle.rules.proofs.Told.{NoteIs, NotedRow, SpentIn, Told}
use Rattle.rules.proofs.Tools.{all_both, all_keeping, all_map, all_push, all_weaker, each_all, test}
use Rattle.rules.specs.Ends.{is_in_lem}
use Rattle.rules.specs.Lists.{All, keeping}
use Rattle.rules.specs.Moves.{new_row}
use Rattle.rules.specs.Safe.{SamePermission}
use Rattle.rules.specs.Tally.{Tally, note_for, noted}
use Rattle.rules.specs.declared.rows.OwnRow.{OwnRow}
use Rattle.rules.specs.declared.rows.PromisedRow.{PromisedRow}
use Rattle.rules.specs.declared.rows.RowState.{RowState}
use Rattle.slip.specs.declared.track.Class.{Class}
use Rattle.slip.specs.declared.track.Train.{Train}

-- a change of state in place, which leaves In rows In
module _ (b : Book) (own : List OwnRow) (U : ℕ) (ps : List PromisedRow) (H : ℕ) (τ : Tally) (g : ℕ → RowState → RowState) (ins : (s : ℕ) (st : RowState) → is_in_lem st ≡ true → is_in_lem (g s st) ≡ true) where
  pub in_change : (s : ℕ) → All (InAt s) own → All (InAt s) (map (restate g) own)
  in_change s a = all_map (InAt s) (restate g) own (all_weaker (λ r f e. ins r.serial r.state (f e)) own a)

  pub told_change : Told b own U ps H τ → Told b (map (restate g) own) U ps H τ
  told_change i = record {
    same = i.same;
    spent = all_weaker (λ q f e. in_change q.serial (f e)) τ.promises i.spent;
    between = i.between;
    notes = all_map (NotedRow τ) (restate g) own i.notes;
    heard = i.heard;
    known = i.known;
    count = i.count;
    good = i.good;
    served = all_weaker (λ x s. record { serial = s.serial; one = s.one; used = s.used; went = in_change s.serial s.went }) τ.entries i.served;
    once = i.once;
    limit = i.limit;
  }

-- rows go
module _ (b : Book) (own : List OwnRow) (U : ℕ) (ps : List PromisedRow) (H : ℕ) (τ : Tally) (t : OwnRow → Bool) where
  in_drop : (s : ℕ) → All (InAt s) own → All (InAt s) (keeping t own)
  in_drop s a = all_keeping (InAt s) (InAt s) t (λ r e h. h) own a

  pub told_drop : Told b own U ps H τ → Told b (keeping t own) U ps H τ
  told_drop i = record {
    same = i.same;
    spent = all_weaker (λ q f e. in_drop q.serial (f e)) τ.promises i.spent;
    between = i.between;
    notes = all_keeping (NotedRow τ) (NotedRow τ) t (λ r e h. h) own i.notes;
    heard = i.heard;
    known = i.known;
    count = i.count;
    good = i.good;
    served = all_weaker (λ x s. record { serial = s.serial; one = s.one; used = s.used; went = in_drop s.serial s.went }) τ.entries i.served;
    once = i.once;
    limit = i.limit;
  }

-- ask
module _ (b : Book) (own : List OwnRow) (U : ℕ) (ps : List PromisedRow) (H : ℕ) (τ : Tally) (t : Train) (c : Class) (bound : H ≤ U) (used : All (λ r. r.serial ≤ U) own) (heard : All (λ p. p.serial ≤ H) ps) where
  in_ask : (s : ℕ) → s ≤ U → All (InAt s) own → All (InAt s) (own ++ (new_row (U + 1) t c ∷ []))
  in_ask s l a = all_push (InAt s) own (new_row (U + 1) t c) a (λ e. absurd (omega (arith, e)))

  note_old : (s : ℕ) (n : Train) (d : Class) → s ≤ U → NoteIs (note_for s τ.notes) n d → NoteIs (note_for s (noted (U + 1) t c τ).notes) n d
  note_old s n d l h = test (eqb (U + 1) s) (Some (record { serial = U + 1; train = t; class = c })) (note_for s τ.notes) (λ o. NoteIs o n d) (λ e. absurd (grind arith)) (λ e. h)

  note_new : NoteIs (note_for (U + 1) (noted (U + 1) t c τ).notes) t c
  note_new = test (eqb (U + 1) (U + 1)) (Some (record { serial = U + 1; train = t; class = c })) (note_for (U + 1) τ.notes) (λ o. NoteIs o t c) (λ e. (refl, refl)) (λ e. absurd (grind arith))

  pub told_ask : Told b own U ps H τ → Told b (own ++ (new_row (U + 1) t c ∷ [])) (U + 1) ps H (noted (U + 1) t c τ)
  told_ask j = record {
    same = j.same;
    spent = all_both _ _ (SpentIn (own ++ (new_row (U + 1) t c ∷ []))) (λ q l f e. in_ask q.serial l (f e)) τ.promises
        (each_all SamePermission (λ p. p.serial ≤ H) (λ q. q.serial ≤ U) (λ q p e l. omega (arith, e.serial, l, bound)) τ.promises ps j.same heard) j.spent;
    between = j.between;
    notes = all_push (NotedRow (noted (U + 1) t c τ)) own (new_row (U + 1) t c)
        (all_both _ _ (NotedRow (noted (U + 1) t c τ)) (λ r l h. note_old r.serial r.train r.class l h) own used j.notes) note_new;
    heard = j.heard;
    known = j.known;
    count = j.count;
    good = j.good;
    served = all_weaker (λ x s. record { serial = s.serial; one = s.one; used = omega (arith, s.used); went = in_ask s.serial s.used s.went }) τ.entries j.served;
    once = j.once;
    limit = j.limit;
  }
