-- Whether slips are among others.
use Rattle.slip.specs.contracts.paper.SlipPartialEq.TheImpl.{ghosts}
use Rattle.slip.specs.declared.paper.Slip.{Slip}
use Rattle.std.proofs.Common.{◌≡◌, Bool, List, Decides, refl, arith}
use Rattle.std.proofs.lemmas.Bool.Decides.{Decides-by_and, Decides-by_or}
use Rattle.std.proofs.lemmas.Grind.{common_steps}
use Rattle.std.proofs.lemmas.List.Elements.{Decides-contains}
use Rattle.std.specs.List.{All, Contains, list_all, list_any}

-- by the derived `==`
pub same_as : Slip → Slip → Bool
same_as slip other = ghosts.eq other slip

pub same : (slip other : Slip) → Decides (same_as slip other) (other ≡ slip)
unfolding same_as
same slip other = grind (arith, common_steps)

abbrev pub among_these : List Slip → Slip → Bool
among_these others slip = list_any (same_as slip) others

pub among : (others : List Slip) (slip : Slip) → Decides (among_these others slip) (Contains others slip)
among others slip =
    Decides-contains others slip (among_these others slip)
    (Decides-by_or (same_as slip) (λ other. other ≡ slip) (list_any (same_as slip)) (same slip) refl (λ _ _. refl) others)

pub all_among : (slips others : List Slip) → Decides (list_all (among_these others) slips) (All (Contains others) slips)
all_among slips others = Decides-by_and (among_these others) (Contains others) (list_all (among_these others)) (among others) refl (λ _ _. refl) slips
