use Rattle.std.proofs.Common.{◌≡◌, Some, None, rules}
use Rattle.ossl_commands.proofs.SearchLaws.{cut_by, uncut_by}
use Rattle.ossl_commands.proofs.data.cut_at.Goals as goal

pub returns-in_err-end : goal.returns-in_err-end
returns-in_err-end c =
    let is : c.memchr.result ≡ None = search rules in
    let none = uncut_by c.args.separator c.args.text.now c.memchr.result is c.memchr.ensures in
    rw none (search rules)

pub returns : goal.returns
returns c =
    let is : c.memchr.result ≡ Some c.in_ok-end.end = search rules in
    cut_by c.args.separator c.args.text.now c.memchr.result c.in_ok-end.end is c.memchr.ensures
