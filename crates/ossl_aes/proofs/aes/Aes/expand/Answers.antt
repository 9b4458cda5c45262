use Rattle.std.proofs.Common.{◌≡◌, [], arith, rules, ap, ◌∙◌}
use Rattle.std.proofs.lemmas.List.{length-replicate}
use Rattle.ossl_aes.specs.Cipher.{key_words}
use Rattle.ossl_aes.proofs.ScheduleFacts.{keyed_none, keyed_more, scheduled_none, scheduled_more}
use Rattle.ossl_aes.proofs.aes.Aes.expand.Goals as goal

pub key-init : goal.key-init
key-init g c = (simp length-replicate, keyed_none [] c.args.key.now)

pub key-preserved : goal.key-preserved
key-preserved g c = (search rules, keyed_more c.key.words c.args.key.now c.key.i c.word.result (omega arith) c.key.invariant.1 c.word.ensures)

pub more-init : goal.more-init
more-init g c =
    let all : c.key.i ≡ g.row.NK = omega arith in
    (c.key.invariant.0, scheduled_none c.key.words c.args.key.now g.row.NK c.key.i all (c.key.invariant.1 ∙ ap (key_words c.args.key.now) all))

pub more-preserved : goal.more-preserved
more-preserved g c = (search rules, scheduled_more c.more.words c.args.key.now g.row.NK c.more.i c.temp_word.result (omega arith) (omega arith) (omega arith) c.more.invariant.1 c.temp_word.ensures)
