use Rattle.ms_session.proofs.Dumping.{can_reply_dump, dumps_so}
use Rattle.ms_session.proofs.carrying.dump_database.Goals as goal

pub returns-clause-carried : goal.returns-clause-carried
returns-clause-carried g c = λ clock. dumps_so _ _ _ _ _ _ _ _ c.dump-answer.result clock _ _ _ _ c.reply_to_dump.result c.dump-answer.ensures.dumps c.dump-answer.ensures.later c.dump-answer.ensures.cause c.reply_to_dump.ensures

pub returns-clause-can : goal.returns-clause-can
returns-clause-can g c = can_reply_dump c.dump-answer.result c.reply_to_dump.result c.reply_to_dump.ensures
