-- The tally of the direction that an end asks in, where a train goes in.
use Rattle.std.proofs.Common.{◌≡◌, ℕ, ◌<◌, ◌≤◌, Bool, true, false, not, ◌&&◌, List, [], ◌∷◌, map, sym, refl, subst, inl, inr, arith}
use Rattle.book.specs.Books.{Book}
use Rattle.rules.proofs.Newest.{restate}
use Rattle.rules.proofs.Orderly.{going_in}
use Rattle.rules.proofs.Sound.{Backs, InAt, Is, RowOk, Rows}
use Rattle.rules.proofs.StepGive.{one_row}
use Rattle.rules.proofs.Told.{NotedRow, Served, Spent, SpentIn, Told}
use Rattle.rules.proofs.ToldOwn.{in_change}
use Rattle.rules.proofs.Tools.{all_both, all_map, all_push, all_weaker, any_all, any_out, any_weaker, each_all, each_any, keeping_none, pairs_push, test}
use Rattle.rules.proofs.Trains.{same_both}
use Rattle.rules.specs.Ends.{is_in_lem}
use Rattle.rules.specs.Lists.{All, Any, Each, Pairwise, keeping}
use Rattle.rules.specs.Safe.{Lower, Older, OtherChoice, SamePermission}
use Rattle.rules.specs.Tally.{Promise, Tally, entry, paid, serial_of, spend, unspent}
use Rattle.rules.specs.declared.rows.OwnRow.{OwnRow}
use Rattle.rules.specs.declared.rows.PromisedRow.{PromisedRow}
use Rattle.rules.specs.declared.rows.RowState.{RowState}
use Rattle.rules.specs.declared.rows.RowState.TheVariants.{Asking, Held, In, Withdrawing}
use Rattle.slip.specs.Trains.{same_train}
use Rattle.slip.specs.declared.track.Train.{Train}

-- two rows are not of one train
clash : (r q : OwnRow) (t : Train) → same_train r.train q.train ≡ false → same_train r.train t ≡ true → same_train q.train t ≡ true → ⊥
clash r q t n a b = let z : same_train r.train q.train ≡ true = same_both r.train q.train t a b in grind (arith, n, z)

-- a train has one own row
one_train : (s : ℕ) (t : Train) (own : List OwnRow) → Pairwise Older own → Any (λ r. (r.serial ≡ s) × (same_train r.train t ≡ true)) own → All (λ r. same_train r.train t ≡ true → r.serial ≡ s) own
one_train s t [] p a = tt
one_train s t (r ∷ rs) p (inl h) = ((λ e. h.0), all_weaker (λ q b e. absurd (clash r q t b.train h.1 e)) rs p.0)
one_train s t (r ∷ rs) p (inr h) =
    (λ e. absurd (any_out (Older r) (λ q. (q.serial ≡ s) × (same_train q.train t ≡ true)) ⊥ (λ q b c. clash r q t b.train e c.1) rs p.0 h), one_train s t rs p.1 h)

abbrev pub Rising : Promise → Promise → Type 0
Rising p q = p.serial < q.serial

rising_promises : (qs : List Promise) (ps : List PromisedRow) → Each SamePermission qs ps → Pairwise Lower ps → Pairwise Rising qs
rising_promises [] ps e p = tt
rising_promises (q ∷ qs) [] e p = absurd e
rising_promises (q ∷ qs) (p ∷ ps) e r = (each_all SamePermission (Lower p) (Rising q) (λ x y c l. omega (arith, c.serial, e.0.serial)) qs ps e.1 r.0, rising_promises qs ps e.1 r.1)

only_one : (f : Promise → Bool) (s : ℕ) (qs : List Promise) → Pairwise Rising qs → All (λ q. f q ≡ true → q.serial ≡ s) qs → Any (λ q. f q ≡ true) qs → map serial_of (keeping f qs) ≡ s ∷ []
only_one f s [] p a y = absurd y
only_one f s (q ∷ qs) p a (inl y) =
    test (f q) (q ∷ keeping f qs) (keeping f qs) (λ l. map serial_of l ≡ s ∷ [])
    (λ e. let n : keeping f qs ≡ [] = keeping_none f qs (all_both (Rising q) (λ x. f x ≡ true → x.serial ≡ s) (λ x. f x ≡ true → ⊥) (λ x l g z. omega (arith, g z, a.0 y, l)) qs p.0 a.1) in
    let m : q.serial ≡ s = a.0 y in rw (n, m) refl)
    (λ e. absurd (grind (arith, e, y)))
only_one f s (q ∷ qs) p a (inr y) =
    test (f q) (q ∷ keeping f qs) (keeping f qs) (λ l. map serial_of l ≡ s ∷ [])
    (λ e. absurd (any_out (λ x. (q.serial < x.serial) × (f x ≡ true → x.serial ≡ s)) (λ x. f x ≡ true) ⊥ (λ x b z. omega (arith, b.0, b.1 z, a.0 e)) qs
    (all_both (Rising q) (λ x. f x ≡ true → x.serial ≡ s) _ (λ x l g. (l, g)) qs p.0 a.1) y))
    (λ e. only_one f s qs p.1 a.1 y)

-- spending

spend_same : (t : Train) (qs : List Promise) (ps : List PromisedRow) → Each SamePermission qs ps → Each SamePermission (spend t qs) ps
spend_same t [] ps e = e
spend_same t (q ∷ qs) [] e = absurd e
spend_same t (q ∷ qs) (p ∷ ps) e =
    test (unspent t q) (paid q ∷ qs) (q ∷ spend t qs) (λ l. Each SamePermission l (p ∷ ps))
    (λ z. (record { serial = e.0.serial; train = e.0.train; class = e.0.class; permission = e.0.permission }, e.1)) (λ z. (e.0, spend_same t qs ps e.1))

spend_all : (t : Train) (P Q : Promise → Type 0) → ((q : Promise) → P q → unspent t q ≡ true → Q (paid q)) → ((q : Promise) → P q → Q q) → (qs : List Promise) → All P qs → All Q (spend t qs)
spend_all t P Q f g [] a = tt
spend_all t P Q f g (q ∷ qs) a =
    test (unspent t q) (paid q ∷ qs) (q ∷ spend t qs) (All Q) (λ e. (f q a.0 e, all_weaker g qs a.1)) (λ e. (g q a.0, spend_all t P Q f g qs a.1))

spend_kept : (t u : Train) (qs : List Promise) → Any (Spent u) qs → Any (Spent u) (spend t qs)
spend_kept t u [] a = a
spend_kept t u (q ∷ qs) (inl a) = test (unspent t q) (paid q ∷ qs) (q ∷ spend t qs) (Any (Spent u)) (λ e. inl (record { train = a.train; spent = refl })) (λ e. inl a)
spend_kept t u (q ∷ qs) (inr a) = test (unspent t q) (paid q ∷ qs) (q ∷ spend t qs) (Any (Spent u)) (λ e. inr a) (λ e. inr (spend_kept t u qs a))

-- what an unspent promise of a train tells
of_train : (t : Train) (q : Promise) → unspent t q ≡ true → same_train q.train t ≡ true
of_train t q e = first (same_train q.train t) (not q.spent) e
  where
    first : (x y : Bool) → x && y ≡ true → x ≡ true
    first x y e = grind arith

spend_new : (t : Train) (qs : List Promise) → Any (λ q. unspent t q ≡ true) qs → Any (Spent t) (spend t qs)
spend_new t [] a = a
spend_new t (q ∷ qs) (inl a) = test (unspent t q) (paid q ∷ qs) (q ∷ spend t qs) (Any (Spent t)) (λ e. inl (record { train = of_train t q e; spent = refl })) (λ e. absurd (grind (arith, e, a)))
spend_new t (q ∷ qs) (inr a) = test (unspent t q) (paid q ∷ qs) (q ∷ spend t qs) (Any (Spent t)) (λ e. inl (record { train = of_train t q e; spent = refl })) (λ e. inr (spend_new t qs a))

-- the row that goes in

abbrev pub is_held : RowState → Bool
is_held Asking = false
is_held (Held k) = true
is_held (In k) = false
is_held Withdrawing = false

held_promise : (H : ℕ) (ps : List PromisedRow) (s : ℕ) (st : RowState) → is_held st ≡ true → RowOk H ps s st → Any (λ p. p.serial ≡ s) ps
held_promise H ps s Asking e h = absurd (grind (arith, e))
held_promise H ps s (Held k) e h = any_weaker (Is s k) (λ p. p.serial ≡ s) (λ p x. x.same) ps h.1
held_promise H ps s (In k) e h = absurd (grind (arith, e))
held_promise H ps s Withdrawing e h = absurd (grind (arith, e))

pub record HeldBy (s : ℕ) (t : Train) (r : OwnRow) : Type 0 where
  pub same : r.serial ≡ s
  pub train : same_train r.train t ≡ true
  pub held : is_held r.state ≡ true

module _ (b : Book) (own : List OwnRow) (U : ℕ) (ps : List PromisedRow) (H : ℕ) (τ : Tally) (s : ℕ) (t : Train)
    (order : Pairwise Older own) (used : All (λ r. r.serial ≤ U) own) (rising : Pairwise Lower ps) (i : Rows own U ps H) (j : Told b own U ps H τ) (a : Any (HeldBy s t) own) where
  held_rows : All (λ r. r.serial ≡ s → HeldBy s t r) own
  held_rows = one_row (HeldBy s t) s own order (any_weaker (HeldBy s t) _ (λ r h. (h.same, h)) own a)

  train_rows : All (λ r. same_train r.train t ≡ true → r.serial ≡ s) own
  train_rows = one_train s t own order (any_weaker (HeldBy s t) _ (λ r h. (h.same, h.train)) own a)

  not_in : All (InAt s) own → ⊥
  not_in n = any_out (InAt s) (HeldBy s t) ⊥ (λ r f h. clash r.state h.held (f h.same)) own n a
    where
      clash : (st : RowState) → is_held st ≡ true → is_in_lem st ≡ true → ⊥
      clash st e f = grind arith

  train_promises : All (λ q. same_train q.train t ≡ true → q.serial ≡ s) τ.promises
  train_promises = each_all SamePermission (λ p. same_train p.train t ≡ true → p.serial ≡ s) (λ q. same_train q.train t ≡ true → q.serial ≡ s)
      (λ q p c f e. let z : p.serial ≡ s = f (subst (λ (x : Train). same_train x t ≡ true) c.train e) in omega (arith, c.serial, z)) τ.promises ps j.same
      (all_weaker (λ p y e. any_out (λ r. same_train r.train t ≡ true → r.serial ≡ s) (Backs p) (p.serial ≡ s)
      (λ r f c. let z : r.serial ≡ s = f (subst (λ (x : Train). same_train x t ≡ true) (sym c.train) e) in omega (arith, c.same, z)) own train_rows y) ps i.backed)

  has_row : Any (λ p. (p.serial ≡ s) × (same_train p.train t ≡ true)) ps
  has_row = any_all (λ p. Any (Backs p) own) (λ p. p.serial ≡ s) (λ p. (p.serial ≡ s) × (same_train p.train t ≡ true))
      (λ p y e. (
        e,
        any_out (λ r. r.serial ≡ s → HeldBy s t r) (Backs p) (same_train p.train t ≡ true)
            (λ r f c. subst (λ (x : Train). same_train x t ≡ true) c.train (f (omega (arith, c.same, e))).train) own held_rows y,
      )) ps i.backed
      (any_out (λ r. RowOk H ps r.serial r.state) (HeldBy s t) (Any (λ p. p.serial ≡ s) ps) (λ r o h. rw h.same at (held_promise H ps r.serial r.state h.held o)) own i.rows a)

  has_promise : Any (λ q. (q.serial ≡ s) × (unspent t q ≡ true)) τ.promises
  has_promise = any_all (SpentIn own) (λ q. (q.serial ≡ s) × (same_train q.train t ≡ true)) (λ q. (q.serial ≡ s) × (unspent t q ≡ true))
      (λ q f e. (e.0, free (same_train q.train t) q.spent e.1 (λ z. not_in (rw e.0 at (f z))))) τ.promises j.spent
      (each_any SamePermission (λ p. (p.serial ≡ s) × (same_train p.train t ≡ true)) (λ q. (q.serial ≡ s) × (same_train q.train t ≡ true))
      (λ q p c e. (omega (arith, c.serial, e.0), subst (λ (x : Train). same_train x t ≡ true) (sym c.train) e.1)) τ.promises ps j.same has_row)
    where
      free : (x f : Bool) → x ≡ true → (f ≡ true → ⊥) → x && not f ≡ true
      free x f e n = grind arith

  held_used : s ≤ U
  held_used = any_out (λ r. r.serial ≤ U) (HeldBy s t) (s ≤ U) (λ r l h. omega (arith, l, h.same)) own used a

  ins : (q : ℕ) (st : RowState) → is_in_lem st ≡ true → is_in_lem (going_in q st) ≡ true
  ins q st h = grind arith

  pub gone_in : All (InAt s) (map (restate going_in) own)
  gone_in = all_map (InAt s) (restate going_in) own (all_weaker (λ r f e. turn r.serial r.state (f e).held) own held_rows)
    where
      turn : (q : ℕ) (st : RowState) → is_held st ≡ true → is_in_lem (going_in q st) ≡ true
      turn q st h = grind arith

  pub told_enter : Told b (map (restate going_in) own) U ps H (entry t τ)
  told_enter = record {
    same = spend_same t τ.promises ps j.same;
    spent = spend_all t (λ q. (same_train q.train t ≡ true → q.serial ≡ s) × SpentIn own q) (SpentIn (map (restate going_in) own))
        (λ q h e z. let m : q.serial ≡ s = h.0 (of_train t q e) in rw m gone_in)
        (λ q h z. in_change b own U ps H τ going_in ins q.serial (h.1 z)) τ.promises
        (all_both _ _ _ (λ q x y. (x, y)) τ.promises train_promises j.spent);
    between = all_push (λ u. Any (Spent u) (spend t τ.promises)) τ.between t (all_weaker (λ u y. spend_kept t u τ.promises y) τ.between j.between)
        (spend_new t τ.promises (any_weaker _ (λ q. unspent t q ≡ true) (λ q x. x.1) τ.promises has_promise));
    notes = all_map (NotedRow τ) (restate going_in) own j.notes;
    heard = j.heard;
    known = j.known;
    count = j.count;
    good = j.good;
    served = all_push (Served (map (restate going_in) own) U) τ.entries _
        (all_weaker (λ x v. record { serial = v.serial; one = v.one; used = v.used; went = in_change b own U ps H τ going_in ins v.serial v.went }) τ.entries j.served)
        (record { serial = s; one = choices; used = held_used; went = gone_in });
    once = pairs_push OtherChoice τ.entries _ j.once
        (all_weaker (λ x v z. let w : v.serial ≡ s = cc (v.one, z, choices) in not_in (rw w at v.went)) τ.entries j.served);
    limit = j.limit;
  }
    where
      choices : map serial_of (keeping (unspent t) τ.promises) ≡ s ∷ []
      choices = only_one (unspent t) s τ.promises (rising_promises τ.promises ps j.same rising)
          (all_weaker (λ q f e. f (of_train t q e)) τ.promises train_promises)
          (any_weaker _ (λ q. unspent t q ≡ true) (λ q x. x.1) τ.promises has_promise)
