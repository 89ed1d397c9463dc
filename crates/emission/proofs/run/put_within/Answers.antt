use Rattle.emission.proofs.Sets.{difference_regions}
use Rattle.emission.proofs.run.put_within.Goals as goal

pub put_emptiness-requires-clause-room : goal.put_emptiness-requires-clause-room
put_emptiness-requires-clause-room c = rw (difference_regions c.args.a c.args.b c.put_difference.ensures) c.requires.room

pub returns-clause-wrote_nodes : goal.returns-clause-wrote_nodes
returns-clause-wrote_nodes c = rw (difference_regions c.args.a c.args.b c.put_difference.ensures) at c.put_emptiness.ensures
