-- Lines of a sheet, and what each reads as.
use Rattle.slip.specs.declared.track.End.TheVariants.{East, West}
use Rattle.std.specs.Prelude.{◌≡◌, [], ◌∷◌, Ok, Err, codes}
use Rattle.words.specs.Reading.{command_of, unreadable_at}
use Rattle.words.specs.declared.command.Command.{Command}

pub record Worked : Type 0 where
  pub ask : command_of (codes "ask 0 w 12 F") ≡ Ok (Command.Ask 0 West 12 70)
  pub arrive : command_of (codes "arrive 99999 e 0") ≡ Ok (Command.Arrive 99999 East 0)
  pub deliver : command_of (codes "deliver") ≡ Ok Command.Deliver
  pub unknown_class : command_of (codes "ask 0 w 12 Z") ≡ Ok (Command.Ask 0 West 12 90)
  pub no_end : command_of (codes "ask 0 x 12 F") ≡ Err (unreadable_at 7)
  pub no_call : command_of (codes "present 0 w") ≡ Err (unreadable_at 1)
  pub empty_line : command_of [] ≡ Err (unreadable_at 1)
  pub empty_word : command_of (codes "show  0 w") ≡ Err (unreadable_at 6)
  pub missing_word : command_of (codes "show 0") ≡ Err (unreadable_at 7)
  pub trailing_space : command_of (codes "show 0 w ") ≡ Err (unreadable_at 10)
  pub extra_word : command_of (codes "fade now") ≡ Err (unreadable_at 6)
  pub needless_zero : command_of (codes "show 00 w") ≡ Err (unreadable_at 6)
  pub sixth_digit : command_of (codes "enter 1 e 100000") ≡ Err (unreadable_at 11)
  pub small_class : command_of (codes "ask 0 w 12 f") ≡ Err (unreadable_at 12)
  pub tab : command_of (115 ∷ 104 ∷ 111 ∷ 119 ∷ 9 ∷ 48 ∷ 32 ∷ 119 ∷ []) ≡ Err (unreadable_at 1)
  pub carriage_return : command_of (102 ∷ 97 ∷ 100 ∷ 101 ∷ 13 ∷ []) ≡ Err (unreadable_at 1)
