use Rattle.std.proofs.Common.{◌≡◌, ◌+◌, ◌-◌, ◌*◌, arith, rules}
use Rattle.slip.specs.Bytes.{encode}
use Rattle.slip.specs.Form.{InForm}
use Rattle.std.proofs.lemmas.Bool.Decides.{nat_tests}
use Rattle.std.proofs.lemmas.Grind.{common_steps}
use Rattle.telegraph.proofs.Rings.{Put, put_slip}
use Rattle.telegraph.specs.Formed.{length_ring}
use Rattle.telegraph.proofs.ring.calls.TelegraphWire.put.Goals as goal
use Rattle.telegraph.proofs.ring.calls.TelegraphWire.put.Goals.{In_ok-write}
use borrow.Rule.Slice.PartMut.{put_mid}

-- the slip waits last, once its bytes are written
put : (c : In_ok-write) → Put c.args.self.now.bytes.now c.args.self.now.first c.args.self.now.count c.args.slip (put_mid (10 * c.place-at.result) (10 * c.place-at.result + 10 - 10 * c.place-at.result) c.args.self.now.bytes.now c.write.new.out)
put c =
    let s = c.args.self.now in
    let formed : InForm c.args.slip = grind (arith, nat_tests) in
    let written : c.write.new.out ≡ encode c.args.slip = grind (arith, common_steps) in
    put_slip s.bytes.now c.write.new.out s.first s.count c.place-at.result _ c.args.slip (s.within (omega arith)) (omega arith) c.place-at.ensures.value (omega arith) written formed (search rules) s.readable

pub invariant_of-self-2-clause-readable : goal.invariant_of-self-2-clause-readable
invariant_of-self-2-clause-readable c = (put (goal.at.invariant_of-self-2-clause-readable c).In_ok-write).readable

pub returns-clause-after : goal.returns-clause-after
returns-clause-after c = let waits = (put (goal.at.returns-clause-after c).In_ok-write).ring in grind (arith, nat_tests, length_ring)
