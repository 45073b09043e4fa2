-- A block stays good under a good slip that one of its ends hears.
use Rattle.std.proofs.Common.{◌≡◌, ℕ, ◌<◌, ◌≤◌, max, Bool, true, false, eqb, leb, List, [], ◌∷◌, map, Some, None, Option, sym, refl, subst, arith}
use Rattle.book.specs.Books.{Book, Lawful}
use Rattle.rules.proofs.Block.{After, Good, Mine, SomeOf, Theirs, To, some_keeping, some_map}
use Rattle.rules.proofs.Newest.{leaves, renewed_map, restate, shorter_keeping}
use Rattle.rules.proofs.Orderly.{Orderly}
use Rattle.rules.proofs.OrderlyHeard.{granting, out_keeping, promise_keeping}
use Rattle.rules.proofs.Sound.{Backs, GrantedAt, InAt, Is, NotAt, WithdrawingAt}
use Rattle.rules.proofs.StepGive.{Past, besides, giving_ok, gone, gone_rows, gone_slips, hear_rows, hear_slips, mark_rows, mark_slips, promise_puts, promise_rows, promise_slips, unpromised}
use Rattle.rules.proofs.StepOwn.{change_slips, drop_rows, drop_slips, grant_change, grant_rows}
use Rattle.rules.proofs.ToldGive.{Allowed, none_between, none_each, told_again, told_hear, told_mark, told_promise, told_release, unfound}
use Rattle.rules.proofs.ToldOwn.{told_change, told_drop}
use Rattle.rules.proofs.Tools.{all_both, all_weaker, any_out, any_weaker, each_all, find_any, test}
use Rattle.rules.specs.Ends.{Kept, is_asking, is_in_lem, is_withdrawing, own_in, promise_of, with_own, with_promised}
use Rattle.rules.specs.Hearing.{admitted, against_own, behind_promised, dropped, dropping, giving, grant_row, granted, hears, marked, out_of, promising, refusing, reported_of, wanted_of, withdraw_heard}
use Rattle.rules.specs.Lists.{All, Any, find, keeping, newest}
use Rattle.rules.specs.Moves.{word}
use Rattle.rules.specs.Safe.{SamePermission}
use Rattle.rules.specs.Tally.{Tallies, gave, is_given, put_by, take_by}
use Rattle.rules.specs.declared.rows.Heard.{Heard}
use Rattle.rules.specs.declared.rows.OwnRow.{OwnRow}
use Rattle.rules.specs.declared.rows.Permission.{Permission}
use Rattle.rules.specs.declared.rows.PromisedRow.{PromisedRow}
use Rattle.rules.specs.declared.rows.RowState.{RowState}
use Rattle.rules.specs.declared.rows.RowState.TheVariants.{Asking, Held, In, Withdrawing}
use Rattle.rules.specs.declared.rows.Word.{Word}
use Rattle.slip.specs.declared.paper.Message.{Message}
use Rattle.slip.specs.declared.track.Class.{Class}
use Rattle.slip.specs.declared.track.Train.{Train}

-- what is said after a slip was heard
abbrev pub said : ℕ → Heard → Option Word
said s Heard.Ignored = None
said s Heard.Found = None
said s (Heard.Reply m) = Some (word m s)

abbrev pub HeardWell : Book → Kept → Kept → Tallies → ℕ → Heard × Kept → Type 0
HeardWell b x y τ s d = After b x y d.1 (said s d.0) τ

-- no promise where nobody asks
pub none_backed : (own : List OwnRow) (ps : List PromisedRow) → own ≡ [] → All (λ p. Any (Backs p) own) ps → ps ≡ []
none_backed own [] e a = refl
none_backed own (p ∷ ps) e a = absurd (subst (λ l. Any (Backs p) l) e a.0)

module _ (b : Book) (law : Lawful b) (x y : Kept) (τ : Tallies) (g : Good b x y τ) (ox : Orderly x) (oy : Orderly y) where
  ignored : (s : ℕ) → HeardWell b x y τ s (Heard.Ignored, x)
  ignored s = record { good = g; mine = λ q m h. h; theirs = λ q m h. h; says = tt }

  -- the asking side: a row goes

  drop_each : (s : ℕ) (t : RowState → Bool) → s ≤ y.heard → All (NotAt s) y.promised → HeardWell b x y τ s (Heard.Found, with_own x (keeping (leaves s t) x.own) x.signal)
  drop_each s t l a = record {
    good = record {
      asks = drop_rows x.own x.used y.promised y.heard s t l a g.asks;
      gives = g.gives;
      asked = told_drop b x.own x.used y.promised y.heard τ.leaving (leaves s t) g.asked;
      given = g.given;
      near = λ h k. g.near (some_keeping (leaves s t) x.own h) k;
      far = g.far;
    };
    mine = drop_slips x.own x.used y.promised y.heard s t l a;
    theirs = λ q m h. h;
    says = tt;
  }

  drop_newest : (s : ℕ) (t : RowState → Bool) → ((k : Permission) → t (In k) ≡ false) → (r : OwnRow) → newest x.own ≡ Some r → r.serial ≡ s → t r.state ≡ true → s ≤ y.heard → All (NotAt s) y.promised → HeardWell b x y τ s (dropping x)
  drop_newest s t n r e f h l a = subst (λ (rows : List OwnRow). HeardWell b x y τ s (Heard.Found, with_own x rows x.signal))
      (sym (shorter_keeping s t n x.own r ox.rules.own_order e f h)) (drop_each s t l a)

  dropped_ok : (s : ℕ) (t : RowState → Bool) → ((k : Permission) → t (In k) ≡ false) → s ≤ y.heard → All (NotAt s) y.promised → HeardWell b x y τ s (dropped t s x (newest x.own))
  dropped_ok s t n l a = go (newest x.own) refl
    where
      go : (o : Option OwnRow) → newest x.own ≡ o → HeardWell b x y τ s (dropped t s x o)
      go None e = ignored s
      go (Some r) e = test (eqb r.serial s) _ _ (HeardWell b x y τ s) (λ z. test (t r.state) _ _ (HeardWell b x y τ s) (λ w. drop_newest s t n r e (grind arith) w l a) (λ w. ignored s)) (λ z. ignored s)

  out_ok : (s : ℕ) (o : Option OwnRow) → Mine x y s Message.Out → HeardWell b x y τ s (out_of s x o)
  out_ok s None w = ignored s
  out_ok s (Some r) w = subst (λ (rows : List OwnRow). HeardWell b x y τ s (Heard.Found, with_own x rows x.signal))
      (sym (out_keeping s x.own ox.rules.own_order)) (drop_each s is_in_lem w.0 w.1)

  -- the asking side: a row is granted

  grant_each : (k : Permission) (s : ℕ) → s ≤ y.heard → All (GrantedAt y.promised s k) x.own → HeardWell b x y τ s (Heard.Found, with_own x (map (restate (granting s k)) x.own) x.signal)
  grant_each k s l a = record {
    good = record {
      asks = grant_rows x.own x.used y.promised y.heard k s l a g.asks;
      gives = g.gives;
      asked = told_change b x.own x.used y.promised y.heard τ.leaving (granting s k) (grant_change y.heard k s l).ins g.asked;
      given = g.given;
      near = λ h n. g.near (some_map (restate (granting s k)) x.own h) n;
      far = g.far;
    };
    mine = change_slips x.own x.used y.promised y.heard (granting s k) (grant_change y.heard k s l);
    theirs = λ q m h. h;
    says = tt;
  }

  granted_ok : (k : Permission) (s : ℕ) → s ≤ y.heard → All (GrantedAt y.promised s k) x.own → HeardWell b x y τ s (granted s k x (newest x.own))
  granted_ok k s l a = go (newest x.own) refl
    where
      row : (r : OwnRow) (st : RowState) → newest x.own ≡ Some r → r.serial ≡ s → r.state ≡ st → HeardWell b x y τ s (grant_row k x r st)
      row r Asking e f z = subst (λ (rows : List OwnRow). HeardWell b x y τ s (Heard.Found, with_own x rows x.signal))
          (sym (renewed_map (granting s k) (λ q j. refl) x.own r (Held k) ox.rules.own_order e (rw (z, f) (grind arith)))) (grant_each k s l a)
      row r (Held j) e f z = ignored s
      row r (In j) e f z = ignored s
      row r Withdrawing e f z = ignored s

      go : (o : Option OwnRow) → newest x.own ≡ o → HeardWell b x y τ s (granted s k x o)
      go None e = ignored s
      go (Some r) e = test (eqb r.serial s) _ _ (HeardWell b x y τ s) (λ z. row r r.state e (grind arith) refl) (λ z. ignored s)

  -- the giving side: ENTERED

  entered_ok : (s : ℕ) (o : Option PromisedRow) → find (promise_of s) x.promised ≡ o → Theirs x y s Message.Entered → HeardWell b x y τ s (reported_of s x o)
  entered_ok s None e w = record { good = g; mine = λ q m h. h; theirs = λ q m h. h; says = (w.0, unfound s x.promised e) }
  entered_ok s (Some p) e w = record {
    good = record {
      asks = g.asks;
      gives = mark_rows y.own y.used x.promised x.heard s w g.gives;
      asked = g.asked;
      given = told_mark b y.own y.used x.promised x.heard τ.coming s g.given;
      near = λ h k. g.near h (some_map (marked s) x.promised k);
      far = g.far;
    };
    mine = λ q m h. h;
    theirs = mark_slips y.own y.used x.promised x.heard s w;
    says = tt;
  }

  -- WITHDRAW

  withdraw_each : (s : ℕ) → Theirs x y s Message.Withdraw → HeardWell b x y (take_by s Message.Withdraw τ) s (Heard.Reply Message.Released, with_promised x (keeping (besides s) x.promised) (max x.heard s))
  withdraw_each s w = record {
    good = record {
      asks = g.asks;
      gives = gone_rows y.own y.used x.promised H s past (hear_rows y.own y.used x.promised x.heard H up low g.gives);
      asked = g.asked;
      given = told_release b y.own y.used x.promised H τ.coming s ox.rules.promised_order unspent_all (told_hear b y.own y.used x.promised x.heard H τ.coming up g.given);
      near = λ h k. g.near h (some_keeping (besides s) x.promised k);
      far = g.far;
    };
    mine = λ q m h. h;
    theirs = λ q m h. gone_slips y.own y.used x.promised H s past q m (hear_slips y.own y.used x.promised x.heard H up low q m h);
    says = (omega arith, gone s x.promised);
  }
    where
      H : ℕ
      H = max x.heard s

      up : x.heard ≤ max x.heard s
      up = omega arith

      low : max x.heard s ≤ y.used
      low = omega (arith, w.0, g.gives.bound)

      past : All (λ r. r.serial ≡ s → Past r.state) y.own
      past = all_weaker (λ r f e. turn r.state (f e)) y.own w.1
        where
          turn : (st : RowState) → is_withdrawing st ≡ true → Past st
          turn st h = grind arith

      clash : (st : RowState) → is_withdrawing st ≡ true → is_in_lem st ≡ true → ⊥
      clash st h k = grind arith

      -- a promise of s has its row, which is Withdrawing, so it is unspent
      unspent_all : All (λ q. q.spent ≡ true → q.serial ≡ s → ⊥) τ.coming.promises
      unspent_all = all_both _ _ (λ q. q.spent ≡ true → q.serial ≡ s → ⊥)
          (λ q n f e z. any_out (λ r. WithdrawingAt s r × InAt s r) (λ r. r.serial ≡ s) ⊥ (λ r c h. clash r.state (c.0 h) (c.1 h)) y.own
          (all_both _ _ (λ r. WithdrawingAt s r × InAt s r) (λ r c d. (c, d)) y.own w.1 (rw z at (f e)))
          (rw z at n)) τ.coming.promises
          (each_all SamePermission (λ p. Any (Backs p) y.own) (λ q. Any (λ r. r.serial ≡ q.serial) y.own) (λ q p c a. any_weaker (Backs p) _ (λ r h. omega (arith, h.same, c.serial)) y.own a) τ.coming.promises x.promised g.given.same g.gives.backed)
          g.given.spent

  withdraw_ok : (s : ℕ) → Theirs x y s Message.Withdraw → HeardWell b x y (take_by s Message.Withdraw τ) s (withdraw_heard s x)
  withdraw_ok s w = subst (λ (rows : List PromisedRow). HeardWell b x y (take_by s Message.Withdraw τ) s (Heard.Reply Message.Released, with_promised x rows (max x.heard s)))
      (sym (promise_keeping s x.promised ox.rules.promised_order)) (withdraw_each s w)

  -- WANTED

  put_gives : (k : Permission) (s : ℕ) → put_by s (giving k) τ ≡ record { leaving = τ.leaving; coming = gave k s τ.coming τ.leaving }
  put_gives Permission.Clear s = refl
  put_gives Permission.Permissive s = refl

  to_giving : (z : Kept) (k : Permission) (s : ℕ) → Theirs z y s (giving k) → To y z s (giving k)
  to_giving z Permission.Clear s h = h
  to_giving z Permission.Permissive s h = h

  promise_ok : (s : ℕ) (t : Train) (c : Class) (k : Permission) → x.heard < s → x.own ≡ [] → Allowed b k c x.promised → Theirs x y s (Message.Wanted t c) → HeardWell b x y τ s (promising s t c k x)
  promise_ok s t c k l e ok w = record {
    good = subst (Good b (promising s t c k x).1 y) (sym (put_gives k s)) (record {
      asks = g.asks;
      gives = promise_rows y.own y.used x.promised x.heard s t c k l w g.gives;
      asked = g.asked;
      given = told_promise b law y.own y.used x.promised x.heard τ.coming τ.leaving s t c k l g.given none (none_between τ.leaving.promises τ.leaving.between none g.asked.between) ok (w.1 l);
      near = λ h n. subst SomeOf e h;
      far = g.far;
    });
    mine = λ q m h. h;
    theirs = promise_slips y.own y.used x.promised x.heard s t c k l w;
    says = to_giving (promising s t c k x).1 k s (promise_puts y.own y.used x.promised x.heard s t c k l w);
  }
    where
      none : τ.leaving.promises ≡ []
      none = none_each τ.leaving.promises y.promised g.asked.same (none_backed x.own y.promised e g.asks.backed)

  refuse_ok : (s : ℕ) (t : Train) (c : Class) → x.heard < s → Theirs x y s (Message.Wanted t c) → HeardWell b x y τ s (refusing s x)
  refuse_ok s t c l w = record {
    good = record {
      asks = g.asks;
      gives = hear_rows y.own y.used x.promised x.heard s (omega arith) w.0 g.gives;
      asked = g.asked;
      given = told_hear b y.own y.used x.promised x.heard s τ.coming (omega arith) g.given;
      near = g.near;
      far = g.far;
    };
    mine = λ q m h. h;
    theirs = hear_slips y.own y.used x.promised x.heard s (omega arith) w.0;
    says = (omega arith, unpromised s x.promised x.heard l ox.heard);
  }

  again_ok : (s : ℕ) (p : PromisedRow) → find (promise_of s) x.promised ≡ Some p → HeardWell b x y τ s (Heard.Reply (giving p.permission), x)
  again_ok s p e = record {
    good = subst (Good b x y) (sym (put_gives p.permission s)) (record {
      asks = g.asks;
      gives = g.gives;
      asked = g.asked;
      given = told_again b y.own y.used x.promised x.heard τ.coming τ.leaving p.permission s (any_out (λ q. is_given q.serial τ.coming.given ≡ true) (λ q. (q.serial ≡ s) × (q ≡ p)) _ (λ q h z. rw z.0 at h) x.promised g.given.known found) g.given;
      near = g.near;
      far = g.far;
    });
    mine = λ q m h. h;
    theirs = λ q m h. h;
    says = to_giving x p.permission s (giving_ok y.own y.used x.promised x.heard s p.permission
        (any_out (λ q. q.serial ≤ x.heard) (λ q. (q.serial ≡ s) × (q ≡ p)) (s ≤ x.heard) (λ q h z. omega (arith, h, z.0)) x.promised ox.heard found)
        (any_weaker _ (Is s p.permission) (λ q h. record { same = h.0; kind = rw h.1 }) x.promised found));
  }
    where
      found : Any (λ q. (q.serial ≡ s) × (q ≡ p)) x.promised
      found = any_weaker _ _ (λ q h. (let z : eqb q.serial s ≡ true = h.0 in grind arith, h.1)) x.promised (find_any (promise_of s) x.promised p e)

  wanted_ok : (s : ℕ) (t : Train) (c : Class) (o : Option PromisedRow) → find (promise_of s) x.promised ≡ o → Theirs x y s (Message.Wanted t c) → HeardWell b x y τ s (wanted_of b s t c x o)
  wanted_ok s t c (Some p) e w = again_ok s p e
  wanted_ok s t c None e w =
      test (leb s x.heard) _ _ (HeardWell b x y τ s)
      (λ z. record { good = g; mine = λ q m h. h; theirs = λ q m h. h; says = (grind arith, unfound s x.promised e) })
      (λ z. against (grind arith) x.own refl)
    where
      behind : x.heard < s → x.own ≡ [] → (ps : List PromisedRow) → x.promised ≡ ps → HeardWell b x y τ s (behind_promised b s t c x ps)
      behind l f [] h = promise_ok s t c Permission.Clear l f h w
      behind l f (p ∷ ps) h = test (admitted b c (p ∷ ps)) _ _ (HeardWell b x y τ s) (λ k. promise_ok s t c Permission.Permissive l f (rw h k) w) (λ k. refuse_ok s t c l w)

      against : x.heard < s → (rs : List OwnRow) → x.own ≡ rs → HeardWell b x y τ s (against_own b s t c x rs)
      against l [] f = behind l f x.promised refl
      against l (r ∷ rs) f = refuse_ok s t c l w

  pub hear_ok : (s : ℕ) (m : Message) → To x y s m → HeardWell b x y (take_by s m τ) s (hears b s m x)
  hear_ok s (Message.Wanted t c) w = wanted_ok s t c (find (promise_of s) x.promised) refl w
  hear_ok s Message.Clear w = granted_ok Permission.Clear s w.0 w.1
  hear_ok s Message.Permissive w = granted_ok Permission.Permissive s w.0 w.1
  hear_ok s Message.NotClear w = dropped_ok s is_asking (λ k. refl) w.0 w.1
  hear_ok s Message.Entered w = entered_ok s (find (promise_of s) x.promised) refl w
  hear_ok s Message.Out w = out_ok s (find (own_in s) x.own) w
  hear_ok s Message.Withdraw w = withdraw_ok s w
  hear_ok s Message.Released w = dropped_ok s is_withdrawing (λ k. refl) w.0 w.1
