use Rattle.analysis.proofs.Written.{limited_response_written}
use Rattle.analysis.proofs.four_tests.limited_response_time_analysis.Goals as goal

pub returns-clause-general : goal.returns-clause-general
returns-clause-general c = limited_response_written
