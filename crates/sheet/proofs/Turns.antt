-- A sheet line by line: what its loop keeps, and that its report is the defined one.
use Rattle.std.proofs.Common.{◌≡◌, ℕ, ◌+◌, List, [], ◌∷◌, ◌++◌, length, Ok, Err, Result, sym, refl, ap, ◌∙◌, subst, append_assoc, append-nil, arith}
use Rattle.book.specs.Books.{class_book}
use Rattle.lines.specs.Lines.{lines_of}
use Rattle.rules.specs.Lines.{Model, Outcome}
use Rattle.rules.specs.Runs.{Choice, Chosen, Event, MadeSilent, Run, Setting, outcome}
use Rattle.rules.specs.declared.answers.Answer.{Answer}
use Rattle.rules.specs.declared.calls.Call.{Call}
use Rattle.sheet.specs.Calls.{Turn, call_at}
use Rattle.sheet.specs.Report.{line_text, numbered}
use Rattle.sheet.specs.Sheets.{Came, Chain, Entry, SafeChain, SheetPerformed, SheetReported, answer_of, counted, events_after, given_to, lines_before, new_line, office, oldest, report_from, report_of, turn_of}
use Rattle.slip.specs.declared.fault.Fault.{Fault}
use Rattle.slip.specs.declared.paper.Slip.{Slip}
use Rattle.wire.specs.Waiting.{OldestFirst}

-- what the loop keeps: text is the report so far, rest the bytes to come, number the lines done
pub record Sofar (s : Setting) (m : Model) (input text rest : List ℕ) (number : ℕ) (m' : Model) : Type 0 where
  pub entries : List Entry
  pub lines : lines_before entries (lines_of rest) ≡ lines_of (counted input)
  pub chain : Chain s m entries m'
  pub runs : (es : List Event) → Run s MadeSilent es m → Run s MadeSilent (events_after es entries) m'
  pub safe : (es : List Event) → Run s MadeSilent es m → SafeChain s es m entries m'
  pub reports : text ≡ report_of entries
  pub numbers : number ≡ length entries

pub none_yet : (s : Setting) (m : Model) (input text rest : List ℕ) (number : ℕ) → text ≡ [] → rest ≡ counted input → number ≡ 0 → Sofar s m input text rest number m
none_yet s m input text rest number none start first = record {
  entries = [];
  lines = ap lines_of start;
  chain = refl;
  runs = λ es run. run;
  safe = λ es run. refl;
  reports = none;
  numbers = first;
}

module _ {s : Setting} {m : Model} {input text rest : List ℕ} {number : ℕ} {m' : Model} (old : Sofar s m input text rest number m') where
  pub one_more : (l after : List ℕ) (r : Result Answer Fault) (n : Result ℕ Fault) (m'' : Model) → lines_of rest ≡ l ∷ lines_of after → n ≡ numbered r → Turn s (call_at l m') m' r m''
      → Sofar s m input (text ++ line_text (number + 1) n) after (number + 1) m''
  one_more l after r n m'' cut same done = go (call_at l m') refl done
    where
      text_so : (a : Result Answer Fault) → r ≡ a → text ++ line_text (number + 1) n ≡ report_of old.entries ++ line_text (length old.entries + 1) (numbered a)
      text_so a e = λ i. old.reports i ++ line_text (old.numbers i + 1) ((same ∙ ap numbered e) i)

      go : (c : Result Call Fault) → call_at l m' ≡ c → Turn s c m' r m'' → Sofar s m input (text ++ line_text (number + 1) n) after (number + 1) m''
      go (Ok call) e q = record {
        entries = record { line = l; came = Ok q.event } ∷ old.entries;
        lines = ap (lines_before old.entries) (sym cut) ∙ old.lines;
        chain = (m', old.chain, (e ∙ ap Ok (sym q.names), q.step));
        runs = λ es run. (m', old.runs es run, q.step);
        safe = λ es run. (m', old.safe es run, (e ∙ ap Ok (sym q.names), q.step), q.safe (events_after es old.entries) (old.runs es run));
        reports = text_so q.event.answer (sym q.answers);
        numbers = omega (arith, old.numbers);
      }
      go (Err f) e q = record {
        entries = record { line = l; came = Err f } ∷ old.entries;
        lines = ap (lines_before old.entries) (sym cut) ∙ old.lines;
        chain = (m', old.chain, (e, q.1));
        runs = λ es run. rw q.1 (old.runs es run);
        safe = λ es run. (m', old.safe es run, (e, q.1), tt);
        reports = text_so (Err f) q.0;
        numbers = omega (arith, old.numbers);
      }

  pub all_done : rest ≡ [] → SheetPerformed s m input text m'
  all_done e = record { entries = old.entries; lines = sym (ap (λ (l : List ℕ). lines_before old.entries (lines_of l)) e) ∙ old.lines; chain = old.chain; runs = old.runs; safe = old.safe; reports = old.reports }

-- what a telegraph gives is what it is said to give

oldest_given : (ws : List Slip) (c : Choice) → OldestFirst ws c.taken c.left → c ≡ oldest ws
oldest_given [] c h = λ i. record { taken = h.0 i; left = h.1 i }
oldest_given (w ∷ ws) c h = λ i. record { taken = h.0 i; left = h.1 i }

given : (call : Call) (m : Model) (c : Choice) → Chosen office call m c → c ≡ given_to call m.waiting
given (Call.Ask block end train class) m c h = λ i. record { taken = h.0 i; left = h.1 i }
given (Call.Withdraw block end) m c h = λ i. record { taken = h.0 i; left = h.1 i }
given (Call.Show block end) m c h = λ i. record { taken = h.0 i; left = h.1 i }
given (Call.Enter block end train) m c h = λ i. record { taken = h.0 i; left = h.1 i }
given (Call.Present block end serial train) m c h = λ i. record { taken = h.0 i; left = h.1 i }
given (Call.Arrive block end train) m c h = λ i. record { taken = h.0 i; left = h.1 i }
given (Call.Repeat block end train) m c h = λ i. record { taken = h.0 i; left = h.1 i }
given Call.Deliver m c h = oldest_given m.waiting c h
given Call.Fade m c h = λ i. record { taken = h.0 i; left = h.1 i }

-- what a line came to is its turn
came_turn : (n : Model) (c : Result Call Fault) (x : Result Event Fault) (m : Model) → Came office n c x m → ((turn_of c n).answer ≡ answer_of x) × ((turn_of c n).after ≡ m)
came_turn n c (Ok e) m h =
    let t = h.1 in
    let same : outcome class_book e.call t.choice n ≡ outcome class_book e.call (given_to e.call n.waiting) n = ap (λ (k : Choice). outcome class_book e.call k n) (given e.call n t.choice t.chosen) in
    rw h.0 (sym (ap (λ (v : Event). v.answer) t.event ∙ ap (λ (o : Outcome). o.answer) same), sym (t.after ∙ ap (λ (o : Outcome). o.after) same))
came_turn n c (Err f) m h = rw h.0 (refl, sym h.1)

replay : (m : Model) (xs : List Entry) (m' : Model) → Chain office m xs m' → (ls : List (List ℕ)) → report_from 1 m (lines_before xs ls) ≡ report_of xs ++ report_from (length xs + 1) m' ls
replay m [] m' h ls = ap (λ (x : Model). report_from 1 x ls) (sym h)
replay m (x ∷ xs) m' h ls =
    let n = h.0 in
    let t = came_turn n (call_at x.line n) x.came m' h.2 in
    let up : length xs + 1 + 1 ≡ length (x ∷ xs) + 1 = omega arith in
    replay m xs n h.1 (x.line ∷ ls)
    ∙ (λ i. report_of xs ++ (line_text (length xs + 1) (numbered (t.0 i)) ++ report_from (up i) (t.1 i) ls))
    ∙ sym (append_assoc (report_of xs) (line_text (length xs + 1) (numbered (answer_of x.came))) (report_from (length (x ∷ xs) + 1) m' ls))

made : MadeSilent new_line
made = (record { blocks = 2; start = 0; ends = refl }, refl)

pub from_made : (m : Model) (input text : List ℕ) (m' : Model) → m ≡ new_line → SheetPerformed office m input text m' → SheetReported input text
from_made m input text m' new d =
    let whole : SheetPerformed office new_line input text m' = subst (λ (x : Model). SheetPerformed office x input text m') new d in
    record {
      reports =
          whole.reports ∙ sym (append-nil (report_of whole.entries)) ∙ sym (replay new_line whole.entries m' whole.chain []) ∙ ap (report_from 1 new_line) whole.lines;
      entries = whole.entries;
      lines = whole.lines;
      told = whole.reports;
      last = m';
      runs = whole.runs [] made;
      safe = whole.safe [] made;
    }
