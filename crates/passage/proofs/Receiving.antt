-- Slips that are taken one after the other: what their loop keeps, and what a lawful wire hands out.
use Rattle.std.proofs.Common.{◌≡◌, ℕ, ◌+◌, List, [], ◌∷◌, ◌++◌, length, Some, sym, refl, ap, ◌∙◌, subst, inl, inr, arith, length-append}
use Rattle.passage.specs.Reports.{came_told, taken_text}
use Rattle.passage.specs.Takes.{AsWritten, Came}
use Rattle.slip.specs.declared.paper.Slip.{Slip}
use Rattle.std.proofs.lemmas.List.Elements.{All-contains_itself, All-from_recursion, recursion_from_All}
use Rattle.std.specs.List.{AllByRecursion, Contains}
use Rattle.wire.specs.Waiting.{LawfulPicks, Picks, Taken}

-- of ws these came and ws' wait; `text'` is told, after `text`
pub record Sofar (picks : Picks) (ws : List Slip) (text : List ℕ) (came ws' : List Slip) (text' : List ℕ) (count : ℕ) : Type 0 where
  pub taken : Came picks ws came ws'
  pub counted : count ≡ length came
  pub told : text' ≡ came_told text came

came_more : (picks : Picks) (ws came mid : List Slip) (s : Slip) (left : List Slip) → Came picks ws came mid → picks mid (Some s) left → Came picks ws (came ++ (s ∷ [])) left
came_more picks ws [] mid s left e pick = (left, subst (λ (x : List Slip). picks x (Some s) left) e pick, refl)
came_more picks ws (x ∷ came) mid s left (after, first, rest) pick = (after, first, came_more picks after came mid s left rest pick)

told_more : (text : List ℕ) (came : List Slip) (s : Slip) → came_told text (came ++ (s ∷ [])) ≡ came_told text came ++ taken_text s
told_more text [] s = refl
told_more text (x ∷ came) s = told_more (text ++ taken_text x) came s

module _ {picks : Picks} {ws : List Slip} {text : List ℕ} {came ws' : List Slip} {text' : List ℕ} {count : ℕ} (old : Sofar picks ws text came ws' text' count) where
  pub one_more : (s : Slip) (left longer : List Slip) (text'' : List ℕ) → picks ws' (Some s) left → longer ≡ came ++ (s ∷ []) → text'' ≡ text' ++ taken_text s → Sofar picks ws text longer left text'' (count + 1)
  one_more s left longer text'' pick e t = rw e (record {
    taken = came_more picks ws came ws' s left old.taken pick;
    counted = simp length-append (omega (arith, old.counted));
    told = t ∙ ap (λ (bs : List ℕ). bs ++ taken_text s) old.told ∙ sym (told_more text came s);
  })

-- WHAT A LAWFUL WIRE HANDS OUT

parts : {X : Type 0} (P : X → Type 0) (older newer : List X) (x : X) → AllByRecursion P (older ++ (x ∷ newer)) → P x × AllByRecursion P (older ++ newer)
parts P [] newer x h = h
parts P (y ∷ older) newer x h = let rest = parts P older newer x h.1 in (rest.0, (h.0, rest.1))

whole : {X : Type 0} (P : X → Type 0) (older newer : List X) (x : X) → P x → AllByRecursion P (older ++ newer) → AllByRecursion P (older ++ (x ∷ newer))
whole P [] newer x h rest = (h, rest)
whole P (y ∷ older) newer x h rest = (rest.0, whole P older newer x h rest.1)

-- what holds of all that waits holds of the slip that is taken, and of all that is left; and the other way round
of_taken : (P : Slip → Type 0) (ws : List Slip) (s : Slip) (left : List Slip) → Taken ws (Some s) left → AllByRecursion P ws → P s × AllByRecursion P left
of_taken P ws s left (older, newer, e, inl l) h = rw l (parts P older newer s (rw e at h))
of_taken P ws s left (older, newer, e, inr l) h = ((parts P older newer s (rw e at h)).0, rw l h)

of_left : (P : Slip → Type 0) (ws : List Slip) (s : Slip) (left : List Slip) → Taken ws (Some s) left → P s → AllByRecursion P left → AllByRecursion P ws
of_left P ws s left (older, newer, e, inl l) h rest = rw e (whole P older newer s h (rw l at rest))
of_left P ws s left (older, newer, e, inr l) h rest = rw l at rest

module _ {picks : Picks} (lawful : LawfulPicks picks) (P : Slip → Type 0) where
  all_that_came : (ws came left : List Slip) → Came picks ws came left → AllByRecursion P ws → AllByRecursion P came
  all_that_came ws [] left e h = tt
  all_that_came ws (s ∷ came) left (after, pick, rest) h = let t = of_taken P ws s after (lawful ws (Some s) after pick) h in (t.0, all_that_came after came left rest t.1)

  all_that_waited : (ws came left : List Slip) → Came picks ws came left → AllByRecursion P came → AllByRecursion P left → AllByRecursion P ws
  all_that_waited ws [] left e h rest = rw e at rest
  all_that_waited ws (s ∷ came) left (after, pick, more) h rest = of_left P ws s after (lawful ws (Some s) after pick) h.0 (all_that_waited after came left more h.1 rest)

-- so where nothing is left, what came is what waited
pub came_as_written : {picks : Picks} → LawfulPicks picks → (ws came left : List Slip) → Came picks ws came left → left ≡ [] → AsWritten ws came
came_as_written lawful ws came left c e = record {
  none_strange = All-from_recursion (Contains ws) came (all_that_came lawful (Contains ws) ws came left c (recursion_from_All (Contains ws) ws (All-contains_itself ws)));
  none_lost = All-from_recursion (Contains came) ws (all_that_waited lawful (Contains came) ws came left c (recursion_from_All (Contains came) came (All-contains_itself came)) (rw e tt));
}
