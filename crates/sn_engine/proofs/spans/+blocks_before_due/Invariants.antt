use Rattle.sn_engine.proofs.spans.+blocks_before_due.Given as goal

abbrev pub decreases-blocks_before_due : goal.decreases-blocks_before_due
decreases-blocks_before_due l = l.most
