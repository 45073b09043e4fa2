-- The invariant of a block, as one of its ends sees it, and what a call or a slip at that end has to keep.
use Rattle.std.proofs.Common.{◌≡◌, ℕ, Bool, true, List, [], ◌∷◌, map, Some, None, Option, arith}
use Rattle.book.specs.Books.{Book}
use Rattle.rules.proofs.Sound.{Rows, SlipOk}
use Rattle.rules.proofs.Told.{Told}
use Rattle.rules.specs.Ends.{Kept}
use Rattle.rules.specs.Lists.{keeping}
use Rattle.rules.specs.Moves.{is_empty}
use Rattle.rules.specs.Tally.{Tallies, put_by}
use Rattle.rules.specs.declared.rows.Word.{Word}
use Rattle.slip.specs.declared.paper.Message.{Message}

abbrev pub SomeOf : {X : Type 0} → List X → Type 0
SomeOf [] = ⊥
SomeOf (x ∷ xs) = Unit {0}

-- no end has both own rows and promised rows
abbrev pub Apart : Kept → Type 0
Apart k = SomeOf k.own → SomeOf k.promised → ⊥

-- x is the end that looks, y the other
pub record Good (b : Book) (x y : Kept) (τ : Tallies) : Type 0 where
  pub asks : Rows x.own x.used y.promised y.heard
  pub gives : Rows y.own y.used x.promised x.heard
  pub asked : Told b x.own x.used y.promised y.heard τ.leaving
  pub given : Told b y.own y.used x.promised x.heard τ.coming
  pub near : Apart x
  pub far : Apart y

-- slips of what x asked, and of what y asked
abbrev pub Mine : Kept → Kept → ℕ → Message → Type 0
Mine x y s m = SlipOk x.own x.used y.promised y.heard s m

abbrev pub Theirs : Kept → Kept → ℕ → Message → Type 0
Theirs x y s m = SlipOk y.own y.used x.promised x.heard s m

-- a slip to x
abbrev pub To : Kept → Kept → ℕ → Message → Type 0
To x y s (Message.Wanted t c) = Theirs x y s (Message.Wanted t c)
To x y s Message.Clear = Mine x y s Message.Clear
To x y s Message.Permissive = Mine x y s Message.Permissive
To x y s Message.NotClear = Mine x y s Message.NotClear
To x y s Message.Entered = Theirs x y s Message.Entered
To x y s Message.Out = Mine x y s Message.Out
To x y s Message.Withdraw = Theirs x y s Message.Withdraw
To x y s Message.Released = Mine x y s Message.Released

-- what x says goes to y, and to the tally
abbrev pub SaidOk : Kept → Kept → Option Word → Type 0
SaidOk x y None = Unit {0}
SaidOk x y (Some w) = To y x w.serial w.message

abbrev pub told_by : Option Word → Tallies → Tallies
told_by None τ = τ
told_by (Some w) τ = put_by w.serial w.message τ

-- x becomes z and says w; τ are the tallies but for w
pub record After (b : Book) (x y z : Kept) (w : Option Word) (τ : Tallies) : Type 0 where
  pub good : Good b z y (told_by w τ)
  pub mine : (s : ℕ) (m : Message) → Mine x y s m → Mine z y s m
  pub theirs : (s : ℕ) (m : Message) → Theirs x y s m → Theirs z y s m
  pub says : SaidOk z y w

pub some_map : {X Y : Type 0} (f : X → Y) (xs : List X) → SomeOf (map f xs) → SomeOf xs
some_map f [] h = h
some_map f (x ∷ xs) h = tt

pub some_keeping : {X : Type 0} (t : X → Bool) (xs : List X) → SomeOf (keeping t xs) → SomeOf xs
some_keeping t [] h = h
some_keeping t (x ∷ xs) h = tt

pub none_some : {X : Type 0} (xs : List X) → is_empty xs ≡ true → SomeOf xs → ⊥
none_some [] e h = h
none_some (x ∷ xs) e h = grind (arith, e)
