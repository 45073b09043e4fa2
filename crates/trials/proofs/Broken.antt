-- How each day breaks the law.
use Rattle.rules.specs.Safe.{Free}
use Rattle.rules.specs.Tally.{Promise, Tallies, empty, tally}
use Rattle.trials.specs.Shortcuts.{Broken, crowded_day, forgotten_day, freed_day, matched_day}
use Rattle.book.specs.Books.{absolute_book, class_book}
use Rattle.std.proofs.Common.{◌≡◌, ◌⊎◌, List, [], ◌∷◌, length, sym, refl, ap, ◌∙◌, inl, inr, arith}

some_none : {X : Type 0} (x : X) (xs : List X) → x ∷ xs ≡ [] → ⊥
some_none x xs e = let z : length (x ∷ xs) ≡ 0 = ap length e in omega (arith, z)

-- trains are promised both ways
both_ways : (τ : Tallies) (p q : Promise) (ps qs : List Promise) → τ.leaving.promises ≡ p ∷ ps → τ.coming.promises ≡ q ∷ qs → Free τ.leaving ⊎ Free τ.coming → ⊥
both_ways τ p q ps qs e f (inl h) = some_none p ps (sym e ∙ h.promised)
both_ways τ p q ps qs e f (inr h) = some_none q qs (sym f ∙ h.promised)

pub freed : Broken class_book freed_day
freed s = both_ways (tally empty freed_day.events 0) _ _ _ _ refl refl s.one_way

pub forgotten : Broken class_book forgotten_day
forgotten s = both_ways (tally empty forgotten_day.events 0) _ _ _ _ refl refl s.one_way

-- the signal shows Clear, and nothing is promised
pub matched : Broken class_book matched_day
matched s = s.eastward.signal.1

-- more trains are promised than the limit
pub crowded : Broken absolute_book crowded_day
crowded s = omega (arith, s.few)
