-- The invariant of a line, and that what is done at one end of one block keeps it.
use Rattle.std.proofs.Common.{◌≡◌, ℕ, ◌<◌, Bool, true, false, cond, eqb, ◌⊎◌, List, [], ◌∷◌, ◌++◌, is_ok, Some, None, Ok, Option, sym, refl, ap, ◌∙◌, subst, inl, inr, arith, length-set}
use Rattle.book.specs.Books.{Book}
use Rattle.rules.proofs.Block.{After, Good, SaidOk, To, told_by}
use Rattle.rules.proofs.Places.{elsewhere, here, opposite}
use Rattle.rules.proofs.Tools.{all_push, all_weaker, test}
use Rattle.rules.specs.Ends.{Kept}
use Rattle.rules.specs.Lines.{Model, Outcome, at_end, blocks, slip_from, with_end}
use Rattle.rules.specs.Lists.{All}
use Rattle.rules.specs.Runs.{Choice, seen}
use Rattle.rules.specs.Tally.{Tallies, by_call, by_end, by_puts, by_taken, fed_by, put_by, seen_from}
use Rattle.rules.specs.declared.answers.Answer.{Answer}
use Rattle.rules.specs.declared.calls.Call.{Call}
use Rattle.rules.specs.declared.rows.Word.{Word}
use Rattle.slip.specs.Numbers.{other_end}
use Rattle.slip.specs.declared.paper.Message.{Message}
use Rattle.slip.specs.declared.paper.Slip.{Slip}
use Rattle.slip.specs.declared.track.End.{End}
use Rattle.slip.specs.declared.track.End.TheVariants.{East, West}
use Rattle.std.proofs.lemmas.Bool.{cases_eq}
use Rattle.wire.specs.Waiting.{put_after, put_answer}

-- a slip that waits is good for its block
abbrev pub Waits : List Kept → Slip → Type 0
Waits ks s = To (at_end ks s.block s.to) (at_end ks s.block (other_end s.to)) s.serial s.message

pub record Whole (b : Book) (τ : ℕ → Tallies) (m : Model) : Type 0 where
  pub good : (n : ℕ) → n < blocks m.ends → Good b (at_end m.ends n West) (at_end m.ends n East) (τ n)
  pub slips : All (Waits m.ends) m.waiting

-- either end's view

turned : (b : Book) (x y : Kept) (τ : Tallies) → Good b x y τ → Good b y x (record { leaving = τ.coming; coming = τ.leaving })
turned b x y τ g = record { asks = g.gives; gives = g.asks; asked = g.given; given = g.asked; near = g.far; far = g.near }

pub from_end : (b : Book) (ks : List Kept) (n : ℕ) (e : End) (τ : Tallies) → Good b (at_end ks n West) (at_end ks n East) τ → Good b (at_end ks n e) (at_end ks n (other_end e)) (seen_from e τ)
from_end b ks n West τ g = g
from_end b ks n East τ g = turned b (at_end ks n West) (at_end ks n East) τ g

back : (b : Book) (ks : List Kept) (n : ℕ) (e : End) (τ : Tallies) → Good b (at_end ks n e) (at_end ks n (other_end e)) τ → Good b (at_end ks n West) (at_end ks n East) (seen_from e τ)
back b ks n West τ g = g
back b ks n East τ g = turned b (at_end ks n East) (at_end ks n West) τ g

-- a slip to the end that acts, and a slip to the other

to_near : (b : Book) (x y z : Kept) (w : Option Word) (τ : Tallies) → After b x y z w τ → (s : ℕ) (m : Message) → To x y s m → To z y s m
to_near b x y z w τ a s (Message.Wanted t c) h = a.theirs s (Message.Wanted t c) h
to_near b x y z w τ a s Message.Clear h = a.mine s Message.Clear h
to_near b x y z w τ a s Message.Permissive h = a.mine s Message.Permissive h
to_near b x y z w τ a s Message.NotClear h = a.mine s Message.NotClear h
to_near b x y z w τ a s Message.Entered h = a.theirs s Message.Entered h
to_near b x y z w τ a s Message.Out h = a.mine s Message.Out h
to_near b x y z w τ a s Message.Withdraw h = a.theirs s Message.Withdraw h
to_near b x y z w τ a s Message.Released h = a.mine s Message.Released h

to_far : (b : Book) (x y z : Kept) (w : Option Word) (τ : Tallies) → After b x y z w τ → (s : ℕ) (m : Message) → To y x s m → To y z s m
to_far b x y z w τ a s (Message.Wanted t c) h = a.mine s (Message.Wanted t c) h
to_far b x y z w τ a s Message.Clear h = a.theirs s Message.Clear h
to_far b x y z w τ a s Message.Permissive h = a.theirs s Message.Permissive h
to_far b x y z w τ a s Message.NotClear h = a.theirs s Message.NotClear h
to_far b x y z w τ a s Message.Entered h = a.mine s Message.Entered h
to_far b x y z w τ a s Message.Out h = a.theirs s Message.Out h
to_far b x y z w τ a s Message.Withdraw h = a.mine s Message.Withdraw h
to_far b x y z w τ a s Message.Released h = a.theirs s Message.Released h

-- equal ends
both : (C : Kept → Kept → Type 0) (x y x' y' : Kept) → x' ≡ x → y' ≡ y → C x y → C x' y'
both C x y x' y' e f h = subst (λ (u : Kept). C u y') (sym e) (subst (λ (v : Kept). C x v) (sym f) h)

-- the slips that a word makes, and the wire after them

abbrev pub slips_of : ℕ → End → Option Word → List Slip
slips_of n e None = []
slips_of n e (Some w) = slip_from n e w ∷ []

abbrev pub wire_after : ℕ → End → Option Word → List Slip → ℕ → List Slip
wire_after n e None left room = left
wire_after n e (Some w) left room = put_after (slip_from n e w) left room

-- at an end of a block something was done: it keeps z and says w
abbrev pub acted : Answer → Model → ℕ → End → Kept → Option Word → List Slip → Outcome
acted a m n e z w left = record { answer = Ok a; puts = slips_of n e w; after = record { ends = with_end m.ends n e z; waiting = wire_after n e w left m.room; room = m.room } }

-- the tallies after it, for an event

abbrev pub fed : Call → Choice → (ℕ → Tallies) → Outcome → ℕ → Tallies
fed call c τ o q = fed_by q (seen call c o) (τ q) o.answer

-- what the call and the slip taken change, at end e of block n
abbrev pub BeforePut : Call → Choice → Answer → ℕ → End → (Tallies → Tallies) → Type 0
BeforePut call c a n e change = (q : ℕ) (t : Tallies) → by_taken q c.taken (by_call q call a t) ≡ cond (eqb n q) (by_end e change t) t

twice : (e : End) → other_end (other_end e) ≡ e
twice West = refl
twice East = refl

by_two : (e : End) (f g : Tallies → Tallies) (t : Tallies) → by_end (other_end (other_end e)) f (by_end e g t) ≡ seen_from e (f (g (seen_from e t)))
by_two West f g t = refl
by_two East f g t = refl

fold : (x : Bool) (e : End) (f g : Tallies → Tallies) (t u : Tallies) → u ≡ cond x (by_end e g t) t → cond x (by_end (other_end (other_end e)) f u) u ≡ cond x (seen_from e (f (g (seen_from e t)))) t
fold true e f g t u h = ap (by_end (other_end (other_end e)) f) h ∙ by_two e f g t
fold false e f g t u h = h

module _ (b : Book) (τ : ℕ → Tallies) (m : Model) (i : Whole b τ m) (n : ℕ) (l : n < blocks m.ends) (e : End) (call : Call) (c : Choice) (a : Answer) (change : Tallies → Tallies) (before : BeforePut call c a n e change)
    (z : Kept) (w : Option Word) (r : After b (at_end m.ends n e) (at_end m.ends n (other_end e)) z w (change (seen_from e (τ n)))) (left : List Slip) (ok : All (Waits m.ends) left) where
  fed_is : (q : ℕ) → fed call c τ (acted a m n e z w left) q ≡ cond (eqb n q) (seen_from e (told_by w (change (seen_from e (τ q))))) (τ q)
  fed_is q = go w
    where
      go : (v : Option Word) → by_puts q (slips_of n e v) (by_taken q c.taken (by_call q call a (τ q))) ≡ cond (eqb n q) (seen_from e (told_by v (change (seen_from e (τ q))))) (τ q)
      go None = before q (τ q)
      go (Some v) = fold (eqb n q) e (put_by v.serial v.message) change (τ q) _ (before q (τ q))

  good_here : Good b (at_end (with_end m.ends n e z) n West) (at_end (with_end m.ends n e z) n East) (seen_from e (told_by w (change (seen_from e (τ n)))))
  good_here = back b (with_end m.ends n e z) n e (told_by w (change (seen_from e (τ n))))
      (both (λ u v. Good b u v (told_by w (change (seen_from e (τ n))))) z (at_end m.ends n (other_end e)) _ _ (here m.ends n e z l) (opposite m.ends n e z) r.good)

  good_after : (q : ℕ) → q < blocks m.ends → Good b (at_end (with_end m.ends n e z) q West) (at_end (with_end m.ends n e z) q East) (fed call c τ (acted a m n e z w left) q)
  good_after q k = subst (Good b (at_end (with_end m.ends n e z) q West) (at_end (with_end m.ends n e z) q East)) (sym (fed_is q))
      (test (eqb n q) (seen_from e (told_by w (change (seen_from e (τ q))))) (τ q) (Good b (at_end (with_end m.ends n e z) q West) (at_end (with_end m.ends n e z) q East))
      (λ y. let z' : n ≡ q = grind arith in subst (λ (p : ℕ). Good b (at_end (with_end m.ends n e z) p West) (at_end (with_end m.ends n e z) p East) (seen_from e (told_by w (change (seen_from e (τ p)))))) z' good_here)
      (λ y. let d : q ≡ n → ⊥ = λ h. grind arith in
      both (λ u v. Good b u v (τ q)) (at_end m.ends q West) (at_end m.ends q East) _ _ (elsewhere m.ends n q e West z d) (elsewhere m.ends n q e East z d) (i.good q k)))

  -- a slip to end f of this block
  waits_here : (f : End) (s : ℕ) (t : Message) → To (at_end m.ends n f) (at_end m.ends n (other_end f)) s t → To (at_end (with_end m.ends n e z) n f) (at_end (with_end m.ends n e z) n (other_end f)) s t
  waits_here f s t h = go e f refl h
    where
      near : To (at_end m.ends n e) (at_end m.ends n (other_end e)) s t → To (at_end (with_end m.ends n e z) n e) (at_end (with_end m.ends n e z) n (other_end e)) s t
      near h = both (λ u v. To u v s t) z (at_end m.ends n (other_end e)) _ _ (here m.ends n e z l) (opposite m.ends n e z) (to_near b _ _ z w _ r s t h)

      far : To (at_end m.ends n (other_end e)) (at_end m.ends n e) s t → To (at_end (with_end m.ends n e z) n (other_end e)) (at_end (with_end m.ends n e z) n e) s t
      far h = both (λ u v. To u v s t) (at_end m.ends n (other_end e)) z _ _ (opposite m.ends n e z) (here m.ends n e z l) (to_far b _ _ z w _ r s t h)

      go : (d f : End) → e ≡ d → To (at_end m.ends n f) (at_end m.ends n (other_end f)) s t → To (at_end (with_end m.ends n e z) n f) (at_end (with_end m.ends n e z) n (other_end f)) s t
      go West West y h = subst (λ (x : End). To (at_end m.ends n x) (at_end m.ends n (other_end x)) s t → To (at_end (with_end m.ends n e z) n x) (at_end (with_end m.ends n e z) n (other_end x)) s t) y near h
      go West East y h = subst (λ (x : End). To (at_end m.ends n (other_end x)) (at_end m.ends n x) s t → To (at_end (with_end m.ends n e z) n (other_end x)) (at_end (with_end m.ends n e z) n x) s t) y far h
      go East West y h = subst (λ (x : End). To (at_end m.ends n (other_end x)) (at_end m.ends n x) s t → To (at_end (with_end m.ends n e z) n (other_end x)) (at_end (with_end m.ends n e z) n x) s t) y far h
      go East East y h = subst (λ (x : End). To (at_end m.ends n x) (at_end m.ends n (other_end x)) s t → To (at_end (with_end m.ends n e z) n x) (at_end (with_end m.ends n e z) n (other_end x)) s t) y near h

  still_waits : (s : Slip) → Waits m.ends s → Waits (with_end m.ends n e z) s
  still_waits s h = go (cases_eq s.block n)
    where
      go : (s.block ≡ n) ⊎ (s.block ≡ n → ⊥) → Waits (with_end m.ends n e z) s
      go (inl y) = subst (λ (p : ℕ). To (at_end (with_end m.ends n e z) p s.to) (at_end (with_end m.ends n e z) p (other_end s.to)) s.serial s.message) (sym y)
          (waits_here s.to s.serial s.message (subst (λ (p : ℕ). To (at_end m.ends p s.to) (at_end m.ends p (other_end s.to)) s.serial s.message) y h))
      go (inr d) = both (λ u v. To u v s.serial s.message) (at_end m.ends s.block s.to) (at_end m.ends s.block (other_end s.to)) _ _
          (elsewhere m.ends n s.block e s.to z d) (elsewhere m.ends n s.block e (other_end s.to) z d) h

  new_waits : (v : Word) → SaidOk z (at_end m.ends n (other_end e)) (Some v) → Waits (with_end m.ends n e z) (slip_from n e v)
  new_waits v h = subst (λ (x : End). To (at_end (with_end m.ends n e z) n (other_end e)) (at_end (with_end m.ends n e z) n x) v.serial v.message) (sym (twice e))
      (both (λ u x. To u x v.serial v.message) (at_end m.ends n (other_end e)) z _ _ (opposite m.ends n e z) (here m.ends n e z l) h)

  slips_after : (v : Option Word) → SaidOk z (at_end m.ends n (other_end e)) v → All (Waits (with_end m.ends n e z)) (wire_after n e v left m.room)
  slips_after None h = all_weaker still_waits left ok
  slips_after (Some v) h = test (is_ok (put_answer (slip_from n e v) left m.room)) (left ++ (slip_from n e v ∷ [])) left (All (Waits (with_end m.ends n e z)))
      (λ y. all_push (Waits (with_end m.ends n e z)) left (slip_from n e v) (all_weaker still_waits left ok) (new_waits v h)) (λ y. all_weaker still_waits left ok)

  pub settled : Whole b (fed call c τ (acted a m n e z w left)) (acted a m n e z w left).after
  settled = record {
    good = λ q k. good_after q (rw length-set at k);
    slips = slips_after w r.says;
  }
