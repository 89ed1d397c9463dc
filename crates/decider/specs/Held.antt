-- What a search holds, as values. Assumes nothing.
use Rattle.decider.specs.declared.search.Search.TheInside.{Inside}
use Rattle.decider.specs.Setting.{Setting}

abbrev pub setting_of : Inside → Setting
setting_of s =
    record {
      words = s.words.now;
      patterns = s.patterns.now;
      order = s.order.now;
      upto = s.upto.now;
      somes = s.somes.now;
      rows = s.rows;
      regions = s.regions;
      root = s.root;
      size = s.size;
    }
