-- A slip that is picked by its place, and what it leaves behind.
use Rattle.std.proofs.Common.{◌≡◌, ℕ, suc, ◌<◌, List, ◌∷◌, ◌++◌, length, get_or, take, drop, Some, ap, ◌∙◌, inl, inr, refl, sym}
use Rattle.radio.specs.Draws.{pick, picked}
use Rattle.slip.specs.declared.paper.Slip.{Slip}
use Rattle.std.proofs.Math.Seq.{split_at}
use Rattle.std.proofs.lemmas.Option.{slice_get-get_or}
use Rattle.std.specs.List.{remove, slice_get}
use Rattle.wire.specs.Waiting.{Taken}

-- of the slips ws, s stands at place i
module _ (ws : List Slip) (i : ℕ) (s : Slip) (inside : i < length ws) (here : s ≡ get_or ws i s) where
  pub picked_some : (v : ℕ) → i ≡ pick ws v → Some s ≡ picked ws v
  picked_some v at = ap Some here ∙ sym (slice_get-get_or ws i s inside) ∙ ap (slice_get ws) at

  cut : ws ≡ take i ws ++ (s ∷ drop (suc i) ws)
  cut = split_at ws i s inside ∙ ap (λ (x : Slip). take i ws ++ (x ∷ drop (suc i) ws)) (sym here)

  pub taken_stays : Taken ws (Some s) ws
  taken_stays = (take i ws, drop (suc i) ws, cut, inr refl)

  pub taken_goes : Taken ws (Some s) (remove ws i)
  taken_goes = (take i ws, drop (suc i) ws, cut, inl refl)
