-- The tally of the direction that an end gives in, where its promised rows change.
use Rattle.std.proofs.Common.{◌≡◌, ℕ, suc, ◌<◌, ◌≤◌, Bool, true, false, cond, not, eqb, List, [], ◌∷◌, ◌++◌, map, length, Some, None, Option, sym, refl, ap, subst, inl, inr, arith}
use Rattle.book.specs.Books.{Book, Lawful}
use Rattle.rules.proofs.OrderlyHeard.{room_left}
use Rattle.rules.proofs.Sound.{Asked, NotAt}
use Rattle.rules.proofs.StepGive.{besides}
use Rattle.rules.proofs.Told.{NoteIs, NotedRow, Spent, SpentIn, Told}
use Rattle.rules.proofs.Tools.{all_keeping, all_map, all_push, all_weaker, any_left, any_out, any_weaker, both_keeping, each_all, each_any, each_length, each_push, each_turn, find_any, test}
use Rattle.std.proofs.lemmas.List.{length-append, length-map}
use Rattle.rules.proofs.Trains.{same_turn}
use Rattle.rules.specs.Ends.{promise_of}
use Rattle.rules.specs.Hearing.{admitted, counted, marked, new_promise}
use Rattle.rules.specs.Lists.{All, Any, Each, Pairwise, find, how_many, keeping}
use Rattle.rules.specs.Safe.{Fit, Lower, RightlyGiven, SamePermission, carries}
use Rattle.rules.specs.Tally.{Given, Note, Promise, Tally, all_but_oldest, arrival, gave, give, is_given, note_for, of_serial, passed, release, release_of}
use Rattle.rules.specs.declared.rows.OwnRow.{OwnRow}
use Rattle.rules.specs.declared.rows.Permission.{Permission}
use Rattle.rules.specs.declared.rows.PromisedRow.{PromisedRow}
use Rattle.slip.specs.Trains.{same_train}
use Rattle.slip.specs.declared.track.Class.{Class}
use Rattle.slip.specs.declared.track.Train.{Train}

-- the last heard rises
pub told_hear : (b : Book) (own : List OwnRow) (U : ℕ) (ps : List PromisedRow) (H s : ℕ) (τ : Tally) → H ≤ s → Told b own U ps H τ → Told b own U ps s τ
told_hear b own U ps H s τ l j = record {
  same = j.same;
  spent = j.spent;
  between = j.between;
  notes = j.notes;
  heard = all_weaker (λ g h. omega arith) τ.given j.heard;
  known = j.known;
  count = j.count;
  good = j.good;
  served = j.served;
  once = j.once;
  limit = j.limit;
}

-- a train that has passed is no longer between
pub told_passed : (b : Book) (own : List OwnRow) (U : ℕ) (ps : List PromisedRow) (H : ℕ) (τ : Tally) (t : Train) → Told b own U ps H τ → Told b own U ps H (passed t τ)
told_passed b own U ps H τ t j = record {
  same = j.same;
  spent = j.spent;
  between = all_keeping (λ u. Any (Spent u) τ.promises) (λ u. Any (Spent u) τ.promises) (λ u. not (same_train u t)) (λ u e h. h) τ.between j.between;
  notes = j.notes;
  heard = j.heard;
  known = j.known;
  count = j.count;
  good = j.good;
  served = j.served;
  once = j.once;
  limit = j.limit;
}

-- ENTERED heard
mark_same : (s : ℕ) (qs : List Promise) (ps : List PromisedRow) → Each SamePermission qs ps → Each SamePermission qs (map (marked s) ps)
mark_same s [] [] e = tt
mark_same s [] (p ∷ ps) e = e
mark_same s (q ∷ qs) [] e = e
mark_same s (q ∷ qs) (p ∷ ps) e = (record { serial = e.0.serial; train = e.0.train; class = e.0.class; permission = e.0.permission }, mark_same s qs ps e.1)

pub told_mark : (b : Book) (own : List OwnRow) (U : ℕ) (ps : List PromisedRow) (H : ℕ) (τ : Tally) (s : ℕ) → Told b own U ps H τ → Told b own U (map (marked s) ps) H τ
told_mark b own U ps H τ s j = record {
  same = mark_same s τ.promises ps j.same;
  spent = j.spent;
  between = j.between;
  notes = j.notes;
  heard = j.heard;
  known = all_map (λ p. is_given p.serial τ.given ≡ true) (marked s) ps j.known;
  count = omega (arith, j.count, length-map ps (marked s));
  good = j.good;
  served = j.served;
  once = j.once;
  limit = omega (arith, j.limit, length-map ps (marked s));
}

-- arrive
pub told_arrive : (b : Book) (own : List OwnRow) (U : ℕ) (p : PromisedRow) (ps : List PromisedRow) (H : ℕ) (τ : Tally) (t : Train) → same_train p.train t ≡ true → Told b own U (p ∷ ps) H τ → Told b own U ps H (arrival t τ)
told_arrive b own U p ps H τ t m j = record {
  same = rest_same τ.promises j.same;
  spent = rest_all τ.promises j.spent;
  between = all_keeping (λ u. Any (Spent u) τ.promises) (λ u. Any (Spent u) (all_but_oldest τ.promises)) (λ u. not (same_train u t)) (λ u e y. rest_any u τ.promises j.same (λ z. grind (arith, e, z)) y) τ.between j.between;
  notes = j.notes;
  heard = j.heard;
  known = j.known.1;
  count = omega (arith, j.count);
  good = j.good;
  served = j.served;
  once = j.once;
  limit = omega (arith, j.limit);
}
  where
    rest_same : (qs : List Promise) → Each SamePermission qs (p ∷ ps) → Each SamePermission (all_but_oldest qs) ps
    rest_same [] e = absurd e
    rest_same (q ∷ qs) e = e.1

    rest_all : (qs : List Promise) → All (SpentIn own) qs → All (SpentIn own) (all_but_oldest qs)
    rest_all [] a = tt
    rest_all (q ∷ qs) a = a.1

    rest_any : (u : Train) (qs : List Promise) → Each SamePermission qs (p ∷ ps) → (same_train u t ≡ true → ⊥) → Any (Spent u) qs → Any (Spent u) (all_but_oldest qs)
    rest_any u [] e n y = y
    rest_any u (q ∷ qs) e n (inl y) = absurd (n (same_turn q.train u t y.train (subst (λ (x : Train). same_train x t ≡ true) (sym e.0.train) m)))
    rest_any u (q ∷ qs) e n (inr y) = y

-- WITHDRAW heard
abbrev pub unlike : ℕ → Promise → Bool
unlike s q = not (of_serial s q)

without_same : (s : ℕ) (qs : List Promise) (ps : List PromisedRow) → Each SamePermission qs ps → Each SamePermission (keeping (unlike s) qs) (keeping (besides s) ps)
without_same s [] [] e = tt
without_same s [] (p ∷ ps) e = absurd e
without_same s (q ∷ qs) [] e = absurd e
without_same s (q ∷ qs) (p ∷ ps) e =
    let z : q.serial ≡ p.serial = e.0.serial in
    test (besides s p) (p ∷ keeping (besides s) ps) (keeping (besides s) ps) (λ l. Each SamePermission (keeping (unlike s) (q ∷ qs)) l)
    (λ f. test (unlike s q) (q ∷ keeping (unlike s) qs) (keeping (unlike s) qs) (λ l. Each SamePermission l (p ∷ keeping (besides s) ps)) (λ g. (e.0, without_same s qs ps e.1)) (λ g. absurd (grind (arith, z, f, g))))
    (λ f. test (unlike s q) (q ∷ keeping (unlike s) qs) (keeping (unlike s) qs) (λ l. Each SamePermission l (keeping (besides s) ps)) (λ g. absurd (grind (arith, z, f, g))) (λ g. without_same s qs ps e.1))

besides_all : (s : ℕ) (ps : List PromisedRow) → All (NotAt s) ps → keeping (besides s) ps ≡ ps
besides_all s [] a = refl
besides_all s (p ∷ ps) a = test (besides s p) (p ∷ keeping (besides s) ps) (keeping (besides s) ps) (λ l. l ≡ p ∷ ps) (λ e. ap (λ l. p ∷ l) (besides_all s ps a.1)) (λ e. absurd (a.0 (grind arith)))

besides_length : (s : ℕ) (ps : List PromisedRow) → Pairwise Lower ps → Any (λ p. p.serial ≡ s) ps → suc (length (keeping (besides s) ps)) ≡ length ps
besides_length s [] r y = absurd y
besides_length s (p ∷ ps) r (inl y) =
    test (besides s p) (p ∷ keeping (besides s) ps) (keeping (besides s) ps) (λ l. suc (length l) ≡ suc (length ps)) (λ e. absurd (grind (arith, e, y)))
    (λ e. ap (λ l. suc (length l)) (besides_all s ps (all_weaker (λ q l z. omega (arith, l, z, y)) ps r.0)))
besides_length s (p ∷ ps) r (inr y) =
    test (besides s p) (p ∷ keeping (besides s) ps) (keeping (besides s) ps) (λ l. suc (length l) ≡ suc (length ps)) (λ e. ap suc (besides_length s ps r.1 y))
    (λ e. absurd (any_out (Lower p) (λ q. q.serial ≡ s) ⊥ (λ q l z. let w : p.serial ≡ s = grind arith in omega (arith, l, z, w)) ps r.0 y))

-- a row that is not found is not there
pub find_none : {X : Type 0} (f : X → Bool) (xs : List X) → find f xs ≡ None → All (λ x. f x ≡ true → ⊥) xs
find_none f [] e = tt
find_none f (x ∷ xs) e =
    test (f x) (Some x) (find f xs) (λ o. o ≡ None → All (λ x. f x ≡ true → ⊥) (x ∷ xs)) (λ z w. absurd (grind (arith, w))) (λ z w. ((λ q. grind (arith, z, q)), find_none f xs w)) e

pub unfound : (s : ℕ) (ps : List PromisedRow) → find (promise_of s) ps ≡ None → All (NotAt s) ps
unfound s ps e = all_weaker (λ p n z. n (grind arith)) ps (find_none (promise_of s) ps e)

-- the promise of serial s ends, which no row In stands for
pub told_release : (b : Book) (own : List OwnRow) (U : ℕ) (ps : List PromisedRow) (H : ℕ) (τ : Tally) (s : ℕ) → Pairwise Lower ps → All (λ q. q.spent ≡ true → q.serial ≡ s → ⊥) τ.promises → Told b own U ps H τ → Told b own U (keeping (besides s) ps) H (release s τ)
told_release b own U ps H τ s r n j = go (find (of_serial s) τ.promises) refl
  where
    go : (o : Option Promise) → find (of_serial s) τ.promises ≡ o → Told b own U (keeping (besides s) ps) H (release_of s τ o)
    go None e = subst (λ (l : List PromisedRow). Told b own U l H τ) (sym (besides_all s ps
        (each_all (λ p q. SamePermission q p) (λ q. q.serial ≡ s → ⊥) (NotAt s) (λ p q c f z. f (omega (arith, c.serial, z))) ps τ.promises (each_turn SamePermission τ.promises ps j.same)
        (all_weaker (λ q f z. f (grind arith)) τ.promises (find_none (of_serial s) τ.promises e))))) j
    go (Some p) e = record {
      same = without_same s τ.promises ps j.same;
      spent = all_keeping (SpentIn own) (SpentIn own) (unlike s) (λ q e h. h) τ.promises j.spent;
      between = all_weaker (λ u y. both_keeping (λ q. q.spent ≡ true → q.serial ≡ s → ⊥) (Spent u) (unlike s) (λ q f x. let z : q.serial ≡ s → ⊥ = f x.spent in grind arith) τ.promises n y) τ.between j.between;
      notes = j.notes;
      heard = j.heard;
      known = all_keeping _ (λ p. is_given p.serial τ.given ≡ true) (besides s) (λ q e h. h) ps j.known;
      count = omega (arith, j.count, shorter);
      good = j.good;
      served = j.served;
      once = j.once;
      limit = omega (arith, j.limit, shorter);
    }
      where
        shorter : suc (length (keeping (besides s) ps)) ≡ length ps
        shorter = besides_length s ps r (each_any (λ p q. SamePermission q p) (λ q. q.serial ≡ s) (λ p. p.serial ≡ s) (λ p q c z. omega (arith, c.serial, z)) ps τ.promises (each_turn SamePermission τ.promises ps j.same)
            (any_weaker _ (λ q. q.serial ≡ s) (λ q x. grind arith) τ.promises (find_any (of_serial s) τ.promises p e)))

-- WANTED heard again, of a promised row
pub told_again : (b : Book) (own : List OwnRow) (U : ℕ) (ps : List PromisedRow) (H : ℕ) (τ σ : Tally) (k : Permission) (s : ℕ) → is_given s τ.given ≡ true → Told b own U ps H τ → Told b own U ps H (gave k s τ σ)
told_again b own U ps H τ σ k s e j = test (is_given s τ.given) τ (give k s τ σ (note_for s τ.notes)) (Told b own U ps H) (λ f. j) (λ f. absurd (grind (arith, e, f)))

-- WANTED heard, and promised

abbrev pub Allowed : Book → Permission → Class → List PromisedRow → Type 0
Allowed b Permission.Clear c ps = ps ≡ []
Allowed b Permission.Permissive c ps = admitted b c ps ≡ true

not_given : (s H : ℕ) (gs : List Given) → H < s → All (λ g. g.serial ≤ H) gs → is_given s gs ≡ false
not_given s H [] l a = refl
not_given s H (g ∷ gs) l a = test (eqb g.serial s) true (is_given s gs) (λ x. x ≡ false) (λ e. absurd (let z : g.serial ≤ H = a.0 in grind arith)) (λ e. not_given s H gs l a.1)

given_step : (x y z : Bool) → (y ≡ true → z ≡ true) → cond x true y ≡ true → cond x true z ≡ true
given_step true y z f e = refl
given_step false y z f e = f e

given_left : (s : ℕ) (gs hs : List Given) → is_given s gs ≡ true → is_given s (gs ++ hs) ≡ true
given_left s [] hs e = absurd (grind (arith, e))
given_left s (g ∷ gs) hs e = given_step (eqb g.serial s) (is_given s gs) (is_given s (gs ++ hs)) (given_left s gs hs) e

given_new : (s : ℕ) (gs : List Given) (g : Given) → g.serial ≡ s → is_given s (gs ++ (g ∷ [])) ≡ true
given_new s [] g e = grind arith
given_new s (h ∷ gs) g e = test (eqb h.serial s) true (is_given s (gs ++ (g ∷ []))) (λ x. x ≡ true) (λ z. refl) (λ z. given_new s gs g e)

same_many : (qs : List Promise) (ps : List PromisedRow) → Each SamePermission qs ps → how_many carries qs ≡ how_many counted ps
same_many [] [] e = refl
same_many [] (p ∷ ps) e = absurd e
same_many (q ∷ qs) [] e = absurd e
same_many (q ∷ qs) (p ∷ ps) e = let c : q.class ≡ p.class = e.0.class in let i : how_many carries qs ≡ how_many counted ps = same_many qs ps e.1 in cc

pub none_each : (qs : List Promise) (ps : List PromisedRow) → Each SamePermission qs ps → ps ≡ [] → qs ≡ []
none_each [] ps e z = refl
none_each (q ∷ qs) ps e z = absurd (subst (λ l. Each SamePermission (q ∷ qs) l) z e)

pub none_between : (qs : List Promise) (ts : List Train) → qs ≡ [] → All (λ t. Any (Spent t) qs) ts → ts ≡ []
none_between qs [] z a = refl
none_between qs (t ∷ ts) z a = absurd (subst (λ l. Any (Spent t) l) z a.0)

module _ (b : Book) (law : Lawful b) (own : List OwnRow) (U : ℕ) (ps : List PromisedRow) (H : ℕ) (τ σ : Tally) (s : ℕ) (t : Train) (c : Class) (k : Permission) (l : H < s) (j : Told b own U ps H τ)
    (one : σ.promises ≡ []) (two : σ.between ≡ []) (ok : Allowed b k c ps) (w : Any (Asked s t c) own) where
  note_it : NoteIs (note_for s τ.notes) t c
  note_it = any_out (NotedRow τ) (Asked s t c) (NoteIs (note_for s τ.notes) t c) (λ r n a. rw (a.same, a.train, a.class) at n) own j.notes w

  fits : (k : Permission) → Allowed b k c ps → suc (length ps) ≤ b.limit
  fits Permission.Clear e = let z : length ps ≡ 0 = ap length e in omega (arith, z, law.least)
  fits Permission.Permissive e = room_left b law c ps e

  fit : (k : Permission) (n : Note) → n.class ≡ c → Allowed b k c ps → Fit b k (record { serial = s; class = n.class; permission = k; ahead = τ.promises; between = τ.between; facing = σ.promises; meeting = σ.between })
  fit Permission.Clear n m e = let z : τ.promises ≡ [] = none_each τ.promises ps j.same e in (z, none_between τ.promises τ.between z j.between)
  fit Permission.Permissive n m e =
      let x : length τ.promises ≡ length ps = each_length SamePermission τ.promises ps j.same in
      let y : how_many carries τ.promises ≡ how_many counted ps = same_many τ.promises ps j.same in
      rw (m, x, y) e

  pub told_promise : Told b own U (ps ++ (new_promise s t c k ∷ [])) s (gave k s τ σ)
  told_promise = test (is_given s τ.given) τ (give k s τ σ (note_for s τ.notes)) (Told b own U (ps ++ (new_promise s t c k ∷ [])) s)
      (λ e. absurd (grind (arith, e, not_given s H τ.given l j.heard))) (λ e. go (note_for s τ.notes) note_it)
    where
      go : (o : Option Note) → NoteIs o t c → Told b own U (ps ++ (new_promise s t c k ∷ [])) s (give k s τ σ o)
      go None n = absurd n
      go (Some n) m = record {
        same = each_push SamePermission τ.promises ps _ (new_promise s t c k) j.same (record { serial = refl; train = m.0; class = m.1; permission = refl });
        spent = all_push (SpentIn own) τ.promises _ j.spent (λ e. absurd (grind (arith, e)));
        between = all_weaker (λ u y. any_left (Spent u) τ.promises _ y) τ.between j.between;
        notes = j.notes;
        heard = all_push (λ g. g.serial ≤ s) τ.given _ (all_weaker (λ g h. omega arith) τ.given j.heard) (omega arith);
        known = all_push (λ p. is_given p.serial (give k s τ σ (Some n)).given ≡ true) ps (new_promise s t c k) (all_weaker (λ p h. given_left p.serial τ.given _ h) ps j.known) (given_new s τ.given _ refl);
        count = omega (arith, j.count, length-append τ.given ((record { serial = s; class = n.class; permission = k; ahead = τ.promises; between = τ.between; facing = σ.promises; meeting = σ.between }) ∷ []), length-append ps ((new_promise s t c k) ∷ []));
        good = all_push (RightlyGiven b) τ.given _ j.good (record { no_facing = one; no_meeting = two; fit = fit k n m.1 ok });
        served = j.served;
        once = j.once;
        limit = omega (arith, fits k ok, length-append ps ((new_promise s t c k) ∷ []));
      }
