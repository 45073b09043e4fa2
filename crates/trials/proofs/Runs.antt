-- What is played by the rules is a run.
use Rattle.std.proofs.Common.{◌≡◌, ℕ, zero, suc, ◌⊎◌, List, [], ◌∷◌, ◌++◌, length, Some, None, Option, sym, refl, ap, subst, inl, inr, arith}
use Rattle.book.specs.Books.{Book}
use Rattle.rules.specs.Lines.{Model, Outcome, deliver_outcome}
use Rattle.rules.specs.Runs.{Choice, Chosen, MadeSilent, Setting, Step, any_wire, outcome, seen}
use Rattle.rules.specs.declared.calls.Call.{Call}
use Rattle.slip.specs.declared.paper.Slip.{Slip}
use Rattle.trials.specs.Plays.{Played, PlaysAreRuns, PlaysInTurn, Turn, by_rule, choice_at, deliver_by, in_turn, outcome_by, taking, turned, two_blocks}
use Rattle.wire.specs.Waiting.{OldestFirst, Taken}

-- a station that keeps the rules does as the rules say
deliver_same : (b : Book) (m : Model) (left : List Slip) (o : Option Slip) → deliver_by (by_rule b) m left o ≡ deliver_outcome b m left o
deliver_same b m left None = refl
deliver_same b m left (Some s) = refl

same : (b : Book) (call : Call) (c : Choice) (m : Model) → outcome_by (by_rule b) call c m ≡ outcome b call c m
same b (Call.Ask block end train class) c m = refl
same b (Call.Withdraw block end) c m = refl
same b (Call.Show block end) c m = refl
same b (Call.Enter block end train) c m = refl
same b (Call.Present block end serial train) c m = refl
same b (Call.Arrive block end train) c m = refl
same b (Call.Repeat block end train) c m = refl
same b Call.Deliver c m = deliver_same b m c.left c.taken
same b Call.Fade c m = refl

-- one turn, if the wire may choose as it does
one : (s : Setting) (p : Played) (t : Turn) → Chosen s t.call p.after (choice_at t.place t.call p.after) → Step s p.after (seen t.call (choice_at t.place t.call p.after) (outcome_by (by_rule s.book) t.call (choice_at t.place t.call p.after) p.after)) (turned (by_rule s.book) p t).after
one s p t h = record {
  choice = choice_at t.place t.call p.after;
  chosen = h;
  event = ap (seen t.call (choice_at t.place t.call p.after)) (same s.book t.call (choice_at t.place t.call p.after) p.after);
  after = ap (λ (o : Outcome). o.after) (same s.book t.call (choice_at t.place t.call p.after) p.after);
}

-- any slip may be taken

further : (w : Slip) (ws : List Slip) (r : Option Slip) (left : List Slip) → Taken ws r left → (ws ≡ [] → ⊥) → Taken (w ∷ ws) r (w ∷ left)
further w ws None left t n = absurd (n t.0)
further w ws (Some s) left t n = (w ∷ t.0, t.1, ap (λ (l : List Slip). w ∷ l) t.2, go t.3)
  where
    go : (left ≡ t.0 ++ t.1) ⊎ (left ≡ ws) → (w ∷ left ≡ (w ∷ t.0) ++ t.1) ⊎ (w ∷ left ≡ w ∷ ws)
    go (inl e) = inl (ap (λ (l : List Slip). w ∷ l) e)
    go (inr e) = inr (ap (λ (l : List Slip). w ∷ l) e)

taking_taken : (i : ℕ) (ws : List Slip) → Taken ws (taking i ws).taken (taking i ws).left
taking_taken i [] = (refl, refl)
taking_taken i (w ∷ []) = ([], [], refl, inl refl)
taking_taken zero (w ∷ (v ∷ vs)) = ([], v ∷ vs, refl, inl refl)
taking_taken (suc i) (w ∷ (v ∷ vs)) = further w (v ∷ vs) (taking i (v ∷ vs)).taken (taking i (v ∷ vs)).left (taking_taken i (v ∷ vs)) (some_none v vs)
  where
    some_none : (v : Slip) (vs : List Slip) → v ∷ vs ≡ [] → ⊥
    some_none v vs e = let z : length (v ∷ vs) ≡ 0 = ap length e in omega (arith, z)

any_chosen : (b : Book) (place : ℕ) (call : Call) (m : Model) → Chosen (any_wire b) call m (choice_at place call m)
any_chosen b place (Call.Ask block end train class) m = (refl, refl)
any_chosen b place (Call.Withdraw block end) m = (refl, refl)
any_chosen b place (Call.Show block end) m = (refl, refl)
any_chosen b place (Call.Enter block end train) m = (refl, refl)
any_chosen b place (Call.Present block end serial train) m = (refl, refl)
any_chosen b place (Call.Arrive block end train) m = (refl, refl)
any_chosen b place (Call.Repeat block end train) m = (refl, refl)
any_chosen b place Call.Deliver m = taking_taken place m.waiting
any_chosen b place Call.Fade m = (refl, inl refl)

pub plays_are_runs_lem : PlaysAreRuns
plays_are_runs_lem b p [] r = r
plays_are_runs_lem b p (t ∷ ts) r = plays_are_runs_lem b (turned (by_rule b) p t) ts (p.after, r, one (any_wire b) p t (any_chosen b t.place t.call p.after))

-- the oldest is taken

oldest : (ws : List Slip) → OldestFirst ws (taking 0 ws).taken (taking 0 ws).left
oldest [] = (refl, refl)
oldest (w ∷ []) = (refl, refl)
oldest (w ∷ (v ∷ vs)) = (refl, refl)

in_turn_chosen : (b : Book) (call : Call) (m : Model) → Chosen (in_turn b) call m (choice_at 0 call m)
in_turn_chosen b (Call.Ask block end train class) m = (refl, refl)
in_turn_chosen b (Call.Withdraw block end) m = (refl, refl)
in_turn_chosen b (Call.Show block end) m = (refl, refl)
in_turn_chosen b (Call.Enter block end train) m = (refl, refl)
in_turn_chosen b (Call.Present block end serial train) m = (refl, refl)
in_turn_chosen b (Call.Arrive block end train) m = (refl, refl)
in_turn_chosen b (Call.Repeat block end train) m = (refl, refl)
in_turn_chosen b Call.Deliver m = oldest m.waiting
in_turn_chosen b Call.Fade m = (refl, refl)

pub plays_in_turn : PlaysInTurn
plays_in_turn b p [] a r = r
plays_in_turn b p (t ∷ ts) a r = plays_in_turn b (turned (by_rule b) p t) ts a.1
    (p.after, r, one (in_turn b) p t (subst (λ (i : ℕ). Chosen (in_turn b) t.call p.after (choice_at i t.call p.after)) (sym a.0) (in_turn_chosen b t.call p.after)))

pub made : (room start : ℕ) → MadeSilent (two_blocks room start).after
made room start = (record { blocks = 2; start = start; ends = refl }, refl)
