use Rattle.planner.specs.Tables.{holds}
use Rattle.table_file.specs.Stored.{of_fixed}
use Rattle.plan_file.proofs.OnAnswers.{file_answered, notice_answered}
use Rattle.plan_file.proofs.planning.plan_file.Goals as goal

pub returns-in-Ok : goal.returns-in-Ok
returns-in-Ok c =
    file_answered c.args.file.now c.args.text.now c.write_fixed.new.text (of_fixed (holds c.in-Ok.planned)) c.write_fixed.result c.unwrap.result
    c.write_fixed.ensures c.unwrap.ensures c.in-Ok.ensures.1

pub returns-in-Err : goal.returns-in-Err
returns-in-Err c =
    notice_answered c.args.file.now c.args.text.now c.write_notice.new.text c.in-Err.notice c.write_notice.result c.unwrap-in-Err.result
    c.write_notice.ensures c.unwrap-in-Err.ensures c.in-Err.ensures
