-- The histories of homes, by their ids.
use Rattle.std.specs.Prelude.{List, map}
use Rattle.sq_model.specs.Matches.{HomeHistory}
use Rattle.sq_history.specs.HistoryValue.{HistoryValue, all_events}

abbrev pub home_history : HistoryValue → HomeHistory
home_history h = record { home = h.site.home; events = all_events h }

abbrev pub histories_of : List HistoryValue → List HomeHistory
histories_of homes = map home_history homes
