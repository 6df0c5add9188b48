use Rattle.recovery.proofs.recover_pairs.Goals as goal

pub recover_pair-requires : goal.recover_pair-requires
recover_pair-requires c = (c.loop-k.invariant.0, c.loop-k-test.true)
