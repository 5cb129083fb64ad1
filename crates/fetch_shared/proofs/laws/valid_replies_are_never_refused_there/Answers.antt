use Rattle.fetch_shared.proofs.Replied.{listing_free, receiving_free, judging_free}
use Rattle.fetch_shared.proofs.laws.valid_replies_are_never_refused_there.Goals as goal

pub returns-clause-listing : goal.returns-clause-listing
returns-clause-listing c line call receipt e h v = listing_free line call receipt e h v

pub returns-clause-receiving : goal.returns-clause-receiving
returns-clause-receiving c line call receipt e h v = receiving_free line call receipt e h v

pub returns-clause-judging : goal.returns-clause-judging
returns-clause-judging c line call receipt cause h able = judging_free line call receipt cause h able
