use Rattle.analysis.proofs.Written.{response_written}
use Rattle.analysis.proofs.four_tests.response_time_analysis.Goals as goal

pub returns-clause-general : goal.returns-clause-general
returns-clause-general c = response_written
