use Rattle.std.proofs.Common.{◌≡◌, ◌+◌, true, false, Some, None, drop, ap, sym, ◌∙◌, rules, arith}
use Rattle.ossl_commands.specs.Lines.{starts_query}
use Rattle.ossl_commands.specs.Starts.{start_at}
use Rattle.ossl_commands.proofs.QueryLaws.{stops_in, before_there, query_there, before_behind, query_behind, before_end, query_end}
use Rattle.ossl_commands.proofs.text.cut_query.Goals as goal

pub returns-then-starts_query-clause-before : goal.returns-then-starts_query-clause-before
returns-then-starts_query-clause-before c =
    let line = c.args.line.now in
    let i = c.loop-more.gone in
    let at = i + c.in-Some.more in
    let to = stops_in line i c.memchr.result c.in-Some.more c.in-Some.is c.memchr.ensures c.loop-more.invariant.within in
    let starts : starts_query (start_at line at) (drop at line) ≡ true =
    ap (λ b. starts_query b (drop at line)) (sym c.may_start.ensures) ∙ ap (starts_query c.may_start.result) (sym c.split_at.ensures.back)
    ∙ sym c.starts_query.ensures ∙ c.if-starts_query.true
    in
    c.split_at.ensures.front ∙ sym (c.loop-more.invariant.before ∙ before_there line i at to starts)

pub returns-then-starts_query-clause-query : goal.returns-then-starts_query-clause-query
returns-then-starts_query-clause-query c =
    let line = c.args.line.now in
    let i = c.loop-more.gone in
    let at = i + c.in-Some.more in
    let to = stops_in line i c.memchr.result c.in-Some.more c.in-Some.is c.memchr.ensures c.loop-more.invariant.within in
    let starts : starts_query (start_at line at) (drop at line) ≡ true =
    ap (λ b. starts_query b (drop at line)) (sym c.may_start.ensures) ∙ ap (starts_query c.may_start.result) (sym c.split_at.ensures.back)
    ∙ sym c.starts_query.ensures ∙ c.if-starts_query.true
    in
    ap Some c.split_at-then-starts_query.ensures.back ∙ sym (c.loop-more.invariant.query ∙ query_there line i at to starts)

pub loop-more-preserved : goal.loop-more-preserved
loop-more-preserved c =
    let line = c.args.line.now in
    let i = c.loop-more.gone in
    let at = i + c.in-Some.more in
    let to = stops_in line i c.memchr.result c.in-Some.more c.in-Some.is c.memchr.ensures c.loop-more.invariant.within in
    let goes : starts_query (start_at line at) (drop at line) ≡ false =
    ap (λ b. starts_query b (drop at line)) (sym c.may_start.ensures) ∙ ap (starts_query c.may_start.result) (sym c.split_at.ensures.back)
    ∙ sym c.starts_query.ensures ∙ c.if-starts_query.false
    in
    record {
      within = omega (arith, to.within);
      before = c.loop-more.invariant.before ∙ before_behind line i at to goes;
      query = c.loop-more.invariant.query ∙ query_behind line i at to goes;
    }

pub returns-clause-before : goal.returns-clause-before
returns-clause-before c =
    let none : c.memchr.result ≡ None = search rules in
    sym (c.loop-more.invariant.before ∙ before_end c.args.line.now c.loop-more.gone c.memchr.result none c.memchr.ensures c.loop-more.invariant.within)

pub returns-clause-query : goal.returns-clause-query
returns-clause-query c =
    let none : c.memchr.result ≡ None = search rules in
    sym (c.loop-more.invariant.query ∙ query_end c.args.line.now c.loop-more.gone c.memchr.result none c.memchr.ensures c.loop-more.invariant.within)
