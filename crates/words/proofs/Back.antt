-- A written call reads as itself.
use Rattle.std.proofs.Common.{◌≡◌, ℕ, ◌+◌, ◌<◌, List, [], ◌∷◌, ◌++◌, length, Ok, decimal, Option, refl, arith}
use Rattle.slip.specs.declared.track.End.{End}
use Rattle.words.proofs.Parts.{parted}
use Rattle.words.proofs.Spelled.{Spells, ends, letters, name_text, names, numbers}
use Rattle.words.specs.Reading.{argued, at_place, command_of, field, of_train}
use Rattle.words.specs.Words.{Left, at, ended}
use Rattle.words.specs.Written.{Writable, end_text, written}
use Rattle.words.specs.declared.command.Command.{Command}
use Rattle.words.specs.declared.command.Name.{Name}

-- a word that can be written is read, before a space and at the line's end
module _ {T : Type 0} {says : List ℕ → Option T} {Can : T → Type 0} {text : T → List ℕ} (s : Spells says Can text) where
  more : (x : T) → Can x → (rest : List ℕ) (c : ℕ) → field says (at c (text x ++ (32 ∷ rest))) ≡ (Ok x, at (c + length (text x) + 1) rest)
  more x can rest c =
      let word = parted.more (text x) rest c (s.plain x can) in
      let said = s.back x can in
      grind arith

  last : (x : T) → Can x → (c : ℕ) → field says (at c (text x)) ≡ (Ok x, ended (c + length (text x)))
  last x can c =
      let word = parted.last (text x) c (s.plain x can) in
      let said = s.back x can in
      grind arith

placed : (n : Name) (call : ℕ → End → Command) → ((l : Left) → argued n l ≡ at_place call l) → (b : ℕ) (e : End) → b < 100000 → command_of (name_text n ++ (32 ∷ (decimal b ++ (32 ∷ end_text e)))) ≡ Ok (call b e)
placed n call takes b e hb =
    let c : ℕ = 1 + length (name_text n) + 1 in
    let name = more names n tt (decimal b ++ (32 ∷ end_text e)) 1 in
    let block = more numbers b hb (end_text e) c in
    let end = last ends e tt (c + length (decimal b) + 1) in
    grind (arith, takes)

trained : (n : Name) (call : ℕ → End → ℕ → Command) → ((l : Left) → argued n l ≡ of_train call l) → (b : ℕ) (e : End) (t : ℕ) → b < 100000 → t < 100000 → command_of (name_text n ++ (32 ∷ (decimal b ++ (32 ∷ (end_text e ++ (32 ∷ decimal t)))))) ≡ Ok (call b e t)
trained n call takes b e t hb ht =
    let c : ℕ = 1 + length (name_text n) + 1 in
    let d : ℕ = c + length (decimal b) + 1 in
    let name = more names n tt (decimal b ++ (32 ∷ (end_text e ++ (32 ∷ decimal t)))) 1 in
    let block = more numbers b hb (end_text e ++ (32 ∷ decimal t)) c in
    let end = more ends e tt (decimal t) d in
    let train = last numbers t ht (d + length (end_text e) + 1) in
    grind (arith, takes)

asked : (b : ℕ) (e : End) (t c : ℕ) → Writable (Command.Ask b e t c) → command_of (written (Command.Ask b e t c)) ≡ Ok (Command.Ask b e t c)
asked b e t c h =
    let d : ℕ = 5 + length (decimal b) + 1 in
    let i : ℕ = d + length (end_text e) + 1 in
    let name = more names Name.Ask tt (decimal b ++ (32 ∷ (end_text e ++ (32 ∷ (decimal t ++ (32 ∷ (c ∷ []))))))) 1 in
    let block = more numbers b h.0 (end_text e ++ (32 ∷ (decimal t ++ (32 ∷ (c ∷ []))))) 5 in
    let end = more ends e tt (decimal t ++ (32 ∷ (c ∷ []))) d in
    let train = more numbers t h.1 (c ∷ []) i in
    let class = last letters c (h.2, h.3) (i + length (decimal t) + 1) in
    grind arith

pub back : (c : Command) → Writable c → command_of (written c) ≡ Ok c
back (Command.Ask b e t c) h = asked b e t c h
back (Command.Withdraw b e) h = placed Name.Withdraw Command.Withdraw (λ l. refl) b e h
back (Command.Show b e) h = placed Name.Show Command.Show (λ l. refl) b e h
back (Command.Enter b e t) h = trained Name.Enter Command.Enter (λ l. refl) b e t h.0 h.1
back (Command.Form b e) h = placed Name.Form Command.Form (λ l. refl) b e h
back (Command.Arrive b e t) h = trained Name.Arrive Command.Arrive (λ l. refl) b e t h.0 h.1
back (Command.Repeat b e t) h = trained Name.Repeat Command.Repeat (λ l. refl) b e t h.0 h.1
back Command.Deliver h = refl
back Command.Fade h = refl
