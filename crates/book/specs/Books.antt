-- What a rule book means, and the two books.
use Rattle.std.specs.Prelude.{◌≡◌, ℕ, ◌<◌, ◌≤◌, Bool, false, ◌&&◌, ◌||◌, None, ◌==◌, nat_le}
use Rattle.slip.specs.Numbers.{class_of}

-- what a book answers to a class letter, the trains ahead, and how many of them carry passengers
abbrev pub Admits : Type 0
Admits = ℕ → ℕ → ℕ → Bool

-- every book has a limit of 1 to 4 trains, and says no to all that lies outside its questions
pub record BookLaws (limit : ℕ) (admits : Admits) : Type 0 where
  pub least : 1 ≤ limit
  pub most : limit ≤ 4
  pub none_ahead : (class passengers : ℕ) → admits class 0 passengers ≡ false
  pub many_ahead : (class ahead passengers : ℕ) → 4 < ahead → admits class ahead passengers ≡ false
  pub more_passengers : (class ahead passengers : ℕ) → ahead < passengers → admits class ahead passengers ≡ false
  pub unknown_class : (class ahead passengers : ℕ) → class_of class ≡ None → admits class ahead passengers ≡ false
  pub full : (class ahead passengers : ℕ) → limit ≤ ahead → admits class ahead passengers ≡ false

-- a book as the definitions above this crate hold it
pub record Book : Type 0 where
  pub limit : ℕ
  pub admits : Admits

abbrev pub Lawful : Book → Type 0
Lawful b = BookLaws b.limit b.admits

-- the absolute book: one train in a block
abbrev pub never_admits : Admits
never_admits class ahead passengers = false

abbrev pub absolute_book : Book
absolute_book = record { limit = 1; admits = never_admits }

-- freight, work and light engine, in ASCII
abbrev pub may_follow_lem : ℕ → Bool
may_follow_lem class = class == 70 || class == 87 || class == 76

-- the class book: such a train behind one or two of which none carries passengers
abbrev pub class_admits : Admits
class_admits class ahead passengers = nat_le 1 ahead && nat_le ahead 2 && passengers == 0 && may_follow_lem class

abbrev pub class_book : Book
class_book = record { limit = 3; admits = class_admits }
