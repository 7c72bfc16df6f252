use Rattle.sq_laws.proofs.DrainLaws.{enter_refused, enters_accepting, holds_no_more, return_refused, returns_accepting, send_refused, sends_accepting}
use Rattle.sq_laws.proofs.drain_laws.nothing_comes_into_a_home_that_drains.Goals as goal

pub returns-clause-sends : goal.returns-clause-sends
returns-clause-sends c = sends_accepting

pub returns-clause-enters : goal.returns-clause-enters
returns-clause-enters c = enters_accepting

pub returns-clause-gives_back : goal.returns-clause-gives_back
returns-clause-gives_back c = returns_accepting

pub returns-clause-send_refused : goal.returns-clause-send_refused
returns-clause-send_refused c = send_refused

pub returns-clause-enter_refused : goal.returns-clause-enter_refused
returns-clause-enter_refused c = enter_refused

pub returns-clause-give_back_refused : goal.returns-clause-give_back_refused
returns-clause-give_back_refused c = return_refused

pub returns-clause-no_more : goal.returns-clause-no_more
returns-clause-no_more c = holds_no_more
