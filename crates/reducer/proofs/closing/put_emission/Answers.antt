-- `reducer::closing::put_emission` meets its contract: the nodes' runs and what follows them are the whole. Assumes nothing.
use Rattle.reducer.proofs.Counted.{runs_room, emission_done}
use Rattle.reducer.proofs.closing.put_emission.Goals as goal

pub put_all-requires : goal.put_all-requires
put_all-requires c =
    let p = c.requires.prepared.0 in
    record {
      words_value = (p.accepted, p.planned);
      roomy = c.requires.prepared.2;
      room = runs_room p c.requires.words_in_bounds;
    }

pub returns : goal.returns
returns c =
    emission_done c.requires.prepared.0 c.requires.prepared.1 c.put_all.ensures c.put_closing.ensures
