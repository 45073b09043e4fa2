-- Places around a ring of n.
use Rattle.std.proofs.Common.{◌≡◌, ℕ, ◌+◌, ◌<◌, ◌≤◌, ◌≢◌, arith}
use Rattle.std.proofs.lemmas.Bool.Decides.{nat_tests}
use Rattle.telegraph.specs.Ring.{place}

pub place_none : (n p : ℕ) → p < n → place n p 0 ≡ p
place_none n p a = grind (arith, nat_tests)

pub place_apart : (n p k c : ℕ) → p < n → c < n → k < c → place n p k ≢ place n p c
place_apart n p k c a b h = λ e. grind (arith, nat_tests)

pub place_below : (n p k : ℕ) → p < n → k ≤ n → place n p k < n
place_below n p k a b = grind (arith, nat_tests)

pub place_next : (n p k : ℕ) → p < n → k < n → place n (place n p 1) k ≡ place n p (k + 1)
place_next n p k a b = grind (arith, nat_tests)
