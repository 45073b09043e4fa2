-- The invariant of a block gives the law.
use Rattle.std.proofs.Common.{◌≡◌, ℕ, ◌≤◌, Bool, true, false, not, ◌⊎◌, List, [], ◌∷◌, ◌++◌, map, length, Some, None, Option, refl, ap, inl, inr, arith}
use Rattle.book.specs.Books.{Book}
use Rattle.rules.proofs.Block.{Good, SomeOf}
use Rattle.rules.proofs.Hears.{none_backed}
use Rattle.rules.proofs.Newest.{newest_any}
use Rattle.rules.proofs.Orderly.{Orderly}
use Rattle.rules.proofs.Sound.{Backs, InAt, Is, RowOk, Rows}
use Rattle.rules.proofs.StepGive.{one_row}
use Rattle.rules.proofs.Told.{Spent, SpentIn, Told}
use Rattle.rules.proofs.ToldGive.{none_between, none_each}
use Rattle.rules.proofs.Tools.{all_weaker, any_all, any_out, any_weaker, each_any, each_length, keeping_none, test}
use Rattle.std.proofs.lemmas.List.{length-map}
use Rattle.rules.specs.Ends.{Kept, is_in_lem}
use Rattle.rules.specs.Lists.{All, Any, find, keeping, newest}
use Rattle.rules.specs.Moves.{is_some}
use Rattle.rules.specs.Safe.{BackedSignal, Free, SamePermission, Safe, Shows, Unspent, Way, among, train_of, trains}
use Rattle.rules.specs.Tally.{Promise, Tallies, Tally}
use Rattle.rules.specs.declared.rows.OwnRow.{OwnRow}
use Rattle.rules.specs.declared.rows.Permission.{Permission}
use Rattle.rules.specs.declared.rows.PromisedRow.{PromisedRow}
use Rattle.rules.specs.declared.rows.RowState.{RowState}
use Rattle.rules.specs.Ends.{Signal}
use Rattle.slip.specs.Trains.{same_train}
use Rattle.slip.specs.declared.track.Train.{Train}

-- a train between is among those promised
among_spent : (t : Train) (qs : List Promise) → Any (Spent t) qs → among (map train_of qs) t ≡ true
among_spent t [] a = absurd a
among_spent t (q ∷ qs) (inl a) = test (same_train q.train t) (Some q.train) (find (λ u. same_train u t) (map train_of qs)) (λ o. is_some o ≡ true) (λ e. refl) (λ e. absurd (grind (arith, e, a.train)))
among_spent t (q ∷ qs) (inr a) = test (same_train q.train t) (Some q.train) (find (λ u. same_train u t) (map train_of qs)) (λ o. is_some o ≡ true) (λ e. refl) (λ e. among_spent t qs a)

append-nil : {X : Type 0} (xs : List X) → xs ++ [] ≡ xs
append-nil [] = refl
append-nil (x ∷ xs) = ap (λ l. x ∷ l) (append-nil xs)

trains_few : (b : Book) (own : List OwnRow) (U : ℕ) (ps : List PromisedRow) (H : ℕ) (τ : Tally) → Told b own U ps H τ → length (trains τ) ≤ b.limit
trains_few b own U ps H τ j =
    let none : keeping (λ t. not (among (map train_of τ.promises) t)) τ.between ≡ [] =
    keeping_none (λ t. not (among (map train_of τ.promises) t)) τ.between (all_weaker (λ t a e. let m : among (map train_of τ.promises) t ≡ true = among_spent t τ.promises a in grind (arith, m, e)) τ.between j.between) in
    rw (none, append-nil (map train_of τ.promises)) (omega (arith, length-map τ.promises train_of, each_length SamePermission τ.promises ps j.same, j.limit))

trains_none : (τ : Tally) → Free τ → trains τ ≡ []
trains_none τ c = let x : τ.promises ≡ [] = c.promised in let y : τ.between ≡ [] = c.between in rw (x, y)

free : (b : Book) (own : List OwnRow) (U : ℕ) (ps : List PromisedRow) (H : ℕ) (τ : Tally) → ps ≡ [] → Told b own U ps H τ → Free τ
free b own U ps H τ e j = let z : τ.promises ≡ [] = none_each τ.promises ps j.same e in record { promised = z; between = none_between τ.promises τ.between z j.between }

one_way : (b : Book) (x y : Kept) (τ : Tallies) → Good b x y τ → Free τ.leaving ⊎ Free τ.coming
one_way b x y τ g = go x.own refl
  where
    empty : (ps : List PromisedRow) → (SomeOf ps → ⊥) → ps ≡ []
    empty [] n = refl
    empty (p ∷ ps) n = absurd (n tt)

    go : (own : List OwnRow) → x.own ≡ own → Free τ.leaving ⊎ Free τ.coming
    go [] e = inl (free b x.own x.used y.promised y.heard τ.leaving (none_backed x.own y.promised e g.asks.backed) g.asked)
    go (r ∷ rs) e = inr (free b y.own y.used x.promised x.heard τ.coming (empty x.promised (λ h. g.near (rw e tt) h)) g.given)

few : (b : Book) (x y : Kept) (τ : Tallies) → Good b x y τ → Free τ.leaving ⊎ Free τ.coming → length (trains τ.leaving ++ trains τ.coming) ≤ b.limit
few b x y τ g (inl c) = rw (trains_none τ.leaving c) (trains_few b y.own y.used x.promised x.heard τ.coming g.given)
few b x y τ g (inr c) = rw (trains_none τ.coming c, append-nil (trains τ.leaving)) (trains_few b x.own x.used y.promised y.heard τ.leaving g.asked)

-- one way: x asks, y gives
module _ (b : Book) (x y : Kept) (τ : Tally) (o : Orderly x) (i : Rows x.own x.used y.promised y.heard) (j : Told b x.own x.used y.promised y.heard τ) where
  held_row : (k : Permission) (r : OwnRow) → Any (λ q. q ≡ r) x.own → r.state ≡ RowState.Held k → Any (λ p. Is r.serial k p × (p.train ≡ r.train) × (p.class ≡ r.class)) y.promised
  held_row k r m h =
      any_all (λ p. Any (Backs p) x.own) (Is r.serial k) _
      (λ p z e. (
        e,
        any_out (λ q. q.serial ≡ r.serial → q ≡ r) (Backs p) (p.train ≡ r.train) (λ q f c. let w : q ≡ r = f (omega (arith, c.same, e.same)) in cc (c.train, ap (λ (v : OwnRow). v.train) w)) x.own rows_of z,
        any_out (λ q. q.serial ≡ r.serial → q ≡ r) (Backs p) (p.class ≡ r.class) (λ q f c. let w : q ≡ r = f (omega (arith, c.same, e.same)) in cc (c.class, ap (λ (v : OwnRow). v.class) w)) x.own rows_of z,
      )) y.promised i.backed (rw h at ok).1
    where
      rows_of : All (λ q. q.serial ≡ r.serial → q ≡ r) x.own
      rows_of = one_row (λ q. q ≡ r) r.serial x.own o.rules.own_order (any_weaker (λ q. q ≡ r) _ (λ q z. (rw z, z)) x.own m)

      ok : RowOk y.heard y.promised r.serial r.state
      ok = any_out (λ q. RowOk y.heard y.promised q.serial q.state) (λ q. q ≡ r) _ (λ q a z. rw z at a) x.own i.rows m

  held_promise : (k : Permission) (r : OwnRow) → Any (λ q. q ≡ r) x.own → r.state ≡ RowState.Held k → Any (Unspent r k) τ.promises
  held_promise k r m h =
      any_all (SpentIn x.own) (λ q. (q.serial ≡ r.serial) × (q.train ≡ r.train) × (q.class ≡ r.class) × (q.permission ≡ k)) (Unspent r k)
      (λ q f e. record { serial = e.0; train = e.1; class = e.2; permission = e.3; spent = unspent q.spent (λ z. any_out (InAt r.serial) (λ v. v ≡ r) ⊥ (λ v n w. clash r.state h (rw w at (n (rw w)))) x.own (rw e.0 at (f z)) m) }) τ.promises j.spent
      (each_any SamePermission (λ p. Is r.serial k p × (p.train ≡ r.train) × (p.class ≡ r.class)) _
      (λ q p c e. (omega (arith, c.serial, e.0.same), cc (c.train, e.1), cc (c.class, e.2), cc (c.permission, e.0.kind))) τ.promises y.promised j.same (held_row k r m h))
    where
      unspent : (f : Bool) → (f ≡ true → ⊥) → f ≡ false
      unspent f n = grind arith

      clash : (st : RowState) → st ≡ RowState.Held k → is_in_lem st ≡ true → ⊥
      clash st e z = grind arith

  backed_signal : (n : Option OwnRow) → newest x.own ≡ n → (g : Signal) → Shows n g → BackedSignal τ n g
  backed_signal n e None h = tt
  backed_signal None e (Some k) h = absurd h
  backed_signal (Some r) e (Some k) h = (h, held_promise k r (newest_any x.own r e) h)

  pub way : Way b x y τ
  way = record {
    signal = backed_signal (newest x.own) refl x.signal o.rules.signal;
    given = j.good;
    promises = j.same;
    count = j.count;
    entries = all_weaker (λ z s. record { serial = s.serial; only = s.one }) τ.entries j.served;
    once = j.once;
  }

pub safe : (b : Book) (west east : Kept) (τ : Tallies) → Orderly west → Orderly east → Good b west east τ → Safe b west east τ
safe b west east τ ow oe g = record {
  one_way = one_way b west east τ g;
  few = few b west east τ g (one_way b west east τ g);
  eastward = way b west east τ.leaving ow g.asks g.asked;
  westward = way b east west τ.coming oe g.gives g.given;
}
