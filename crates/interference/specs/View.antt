-- What a `Question` of the code asks.
use Rattle.interference.specs.Questions.{Query, Valid, posed}
use Rattle.interference.specs.declared.question.Question.{Question}

abbrev pub query : Question → Query
query q = posed q.cores q.window q.demand q.region q.upper.now q.lower.now

-- a question is valid by its type
pub valid : (q : Question) → Valid (query q)
valid q = record { times = q.times; sizes = q.sizes; uppers = q.uppers; lowers = q.lowers }
