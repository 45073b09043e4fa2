-- The law, for every run, and for every call that follows one.
use Rattle.std.proofs.Common.{◌≡◌, ℕ, zero, suc, ◌*◌, ◌<◌, List, [], ◌∷◌, length, replicate, Result, sym, refl, subst, arith}
use Rattle.book.specs.Books.{Book, Lawful}
use Rattle.rules.proofs.Block.{Good}
use Rattle.rules.proofs.Final.{safe}
use Rattle.rules.proofs.Orderly.{Orderly, idle_orderly}
use Rattle.rules.proofs.Places.{all_at}
use Rattle.rules.proofs.RowSteps.{rows_step}
use Rattle.rules.proofs.Sound.{Rows}
use Rattle.rules.proofs.Steps.{step_ok}
use Rattle.rules.proofs.Told.{Told}
use Rattle.rules.proofs.Tools.{all_weaker}
use Rattle.rules.proofs.Whole.{Waits, Whole}
use Rattle.rules.specs.Ends.{Kept, idle}
use Rattle.rules.specs.Laws.{AlwaysSafe, LawfulSetting, Performed, RowsAlways, RowsInOrder}
use Rattle.rules.specs.Lines.{Model, at_end, site}
use Rattle.rules.specs.Lists.{All}
use Rattle.rules.specs.Runs.{Choice, Chosen, Event, JustMade, MadeSilent, Run, Setting, Step, any_wire, outcome, seen}
use Rattle.rules.specs.Tally.{Tallies, empty, fed_by, nothing, tally}
use Rattle.rules.specs.declared.answers.Answer.{Answer}
use Rattle.rules.specs.declared.calls.Call.{Call}
use Rattle.slip.specs.declared.fault.Fault.{Fault}
use Rattle.slip.specs.declared.track.End.{End}
use Rattle.slip.specs.declared.track.End.TheVariants.{East, West}
use lib.ListN.{get_or-replicate, length-replicate}

-- what a wire picks and loses, any wire may pick and lose

any_chosen : (s : Setting) → LawfulSetting s → (call : Call) (m : Model) (c : Choice) → Chosen s call m c → Chosen (any_wire s.book) call m c
any_chosen s law (Call.Ask block end train class) m c h = h
any_chosen s law (Call.Withdraw block end) m c h = h
any_chosen s law (Call.Show block end) m c h = h
any_chosen s law (Call.Enter block end train) m c h = h
any_chosen s law (Call.Present block end serial train) m c h = h
any_chosen s law (Call.Arrive block end train) m c h = h
any_chosen s law (Call.Repeat block end train) m c h = h
any_chosen s law Call.Deliver m c h = law.picks m.waiting c.taken c.left h
any_chosen s law Call.Fade m c h = (h.0, law.loses m.waiting c.left h.1)

any_step : (s : Setting) → LawfulSetting s → (m : Model) (e : Event) (m' : Model) → Step s m e m' → Step (any_wire s.book) m e m'
any_step s law m e m' t = record { choice = t.choice; chosen = any_chosen s law e.call m t.choice t.chosen; event = t.event; after = t.after }

any_run : (s : Setting) → LawfulSetting s → (Start : Model → Type 0) (es : List Event) (m : Model) → Run s Start es m → Run (any_wire s.book) Start es m
any_run s law Start [] m r = r
any_run s law Start (e ∷ es) m r = (r.0, any_run s law Start es r.0 r.1, any_step s law r.0 e m r.2)

-- rows

all_replicate : {X : Type 0} (P : X → Type 0) (x : X) → P x → (n : ℕ) → All P (replicate n x)
all_replicate P x h zero = tt
all_replicate P x h (suc n) = (h, all_replicate P x h n)

made_rows : (m : Model) → JustMade m → All Orderly m.ends
made_rows m j = subst (All Orderly) (sym j.ends) (all_replicate Orderly (idle j.start) (idle_orderly j.start) (2 * j.blocks))

step_rows : (b : Book) → Lawful b → (m : Model) (e : Event) (m' : Model) → Step (any_wire b) m e m' → All Orderly m.ends → All Orderly m'.ends
step_rows b law m e m' t os = subst (λ (k : Model). All Orderly k.ends) (sym t.after) (rows_step b law m os e.call t.choice)

run_rows : (b : Book) → Lawful b → (Start : Model → Type 0) → ((m : Model) → Start m → JustMade m) → (es : List Event) (m : Model) → Run (any_wire b) Start es m → All Orderly m.ends
run_rows b law Start f [] m r = made_rows m (f m r)
run_rows b law Start f (e ∷ es) m r = step_rows b law r.0 e m r.2 (run_rows b law Start f es r.0 r.1)

in_order : (m : Model) → All Orderly m.ends → RowsInOrder m
in_order m os = all_weaker (λ k o. o.rules) m.ends os

pub rows_always_lem : RowsAlways
rows_always_lem b law es m r = in_order m (run_rows b law JustMade (λ m j. j) es m r)

-- safety

still : (u : ℕ) → Rows [] u [] u
still u = record { rows = tt; bound = omega arith; backed = tt }

quiet : (b : Book) (u : ℕ) → Told b [] u [] u nothing
quiet b u = record { same = tt; spent = tt; between = tt; notes = tt; heard = tt; known = tt; count = refl; good = tt; served = tt; once = tt; limit = omega arith }

rests : (b : Book) (u : ℕ) → Good b (idle u) (idle u) (record { leaving = nothing; coming = nothing })
rests b u = record { asks = still u; gives = still u; asked = quiet b u; given = quiet b u; near = λ h k. h; far = λ h k. h }

made_whole : (b : Book) (m : Model) → MadeSilent m → Whole b empty m
made_whole b m s = record {
  good = λ n l. let long : length m.ends ≡ 2 * s.0.blocks = subst (λ (ks : List Kept). length ks ≡ 2 * s.0.blocks) (sym s.0.ends) (length-replicate (2 * s.0.blocks) (idle s.0.start)) in
      subst (λ (x : Kept). Good b x (at_end m.ends n East) (empty n)) (sym (an_idle n West (omega (arith, l, long))))
      (subst (λ (y : Kept). Good b (idle s.0.start) y (empty n)) (sym (an_idle n East (omega (arith, l, long)))) (rests b s.0.start));
  slips = subst (All (Waits m.ends)) (sym s.1) tt;
}
  where
    an_idle : (n : ℕ) (e : End) → site n e < 2 * s.0.blocks → at_end m.ends n e ≡ idle s.0.start
    an_idle n e l = subst (λ (ks : List Kept). at_end ks n e ≡ idle s.0.start) (sym s.0.ends) (get_or-replicate (2 * s.0.blocks) (site n e) (idle s.0.start) (idle 0) l)

step_whole : (b : Book) → Lawful b → (τ : ℕ → Tallies) (m : Model) (e : Event) (m' : Model) → Step (any_wire b) m e m' → All Orderly m.ends → Whole b τ m → Whole b (λ q. fed_by q e (τ q) e.answer) m'
step_whole b law τ m e m' t os i =
    subst (Whole b (λ q. fed_by q e (τ q) e.answer)) (sym t.after)
    (subst (λ (x : Event). Whole b (λ q. fed_by q x (τ q) x.answer) (outcome b e.call t.choice m).after) (sym t.event) (step_ok b law τ m os i e.call t.choice t.chosen))

run_whole : (b : Book) → Lawful b → (es : List Event) (m : Model) → Run (any_wire b) MadeSilent es m → Whole b (tally empty es) m
run_whole b law [] m r = made_whole b m r
run_whole b law (e ∷ es) m r = step_whole b law (tally empty es) r.0 e m r.2 (run_rows b law MadeSilent (λ m s. s.0) es r.0 r.1) (run_whole b law es r.0 r.1)

pub always_safe_lem : AlwaysSafe
always_safe_lem b law es m r n l =
    let os = run_rows b law MadeSilent (λ m s. s.0) es m r in
    safe b (at_end m.ends n West) (at_end m.ends n East) (tally empty es n) (all_at Orderly m.ends (site n West) (idle 0) os (idle_orderly 0)) (all_at Orderly m.ends (site n East) (idle 0) os (idle_orderly 0)) ((run_whole b law es m r).good n l)

-- what a call promises, of any setting
pub performed : (s : Setting) → LawfulSetting s → (call : Call) (m : Model) (c : Choice) → Chosen s call m c → Performed s call m (outcome s.book call c m).answer (outcome s.book call c m).after
performed s law call m c h = record {
  event = e;
  names = refl;
  answers = refl;
  step = t;
  safe = λ es r. always_safe_lem s.book law.book (e ∷ es) m' (m, any_run s law MadeSilent es m r, any_step s law m e m' t);
  rows = λ es r. rows_always_lem s.book law.book (e ∷ es) m' (m, any_run s law JustMade es m r, any_step s law m e m' t);
}
  where
    e : Event
    e = seen call c (outcome s.book call c m)

    m' : Model
    m' = (outcome s.book call c m).after

    t : Step s m (seen call c (outcome s.book call c m)) (outcome s.book call c m).after
    t = record { choice = c; chosen = h; event = refl; after = refl }

-- the same, of an answer and a line that are equal to those of the outcome
pub performed_as : (s : Setting) → LawfulSetting s → (call : Call) (m : Model) (c : Choice) → Chosen s call m c → (r : Result Answer Fault) (m' : Model) →
    r ≡ (outcome s.book call c m).answer → m' ≡ (outcome s.book call c m).after → Performed s call m r m'
performed_as s law call m c h r m' e f =
    subst (λ (x : Result Answer Fault). Performed s call m x m') (sym e)
    (subst (Performed s call m (outcome s.book call c m).answer) (sym f) (performed s law call m c h))
