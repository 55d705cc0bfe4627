use Rattle.std.proofs.Common.{◌≡◌, ◌∙◌, sym, map, false, true}
use Rattle.std.specs.Prelude.{string_bytes}
use Rattle.vc_words.specs.Options.{is_single}
use Rattle.vc_words.proofs.Reading.{behind, ends, stops, goes_on}
use Rattle.vc_words.proofs.options.are_options.Goals as goal

pub returns-then-not-is_single : goal.returns-then-not-is_single
returns-then-not-is_single c =
    let single : is_single c.args.names.now (string_bytes c.word-item.result) (map (λ w. string_bytes w) (behind c.loop-rest.rest.now)) ≡ false = cc in
    sym (c.loop-rest.invariant ∙ stops _ c.args.names.now c.loop-rest.rest.now c.word-item.result c.in-len2-up.len_at_least c.word-item.is single)

pub loop-rest-preserved : goal.loop-rest-preserved
loop-rest-preserved c =
    let single : is_single c.args.names.now (string_bytes c.word-item.result) (map (λ w. string_bytes w) (behind c.loop-rest.rest.now)) ≡ true = cc in
    c.loop-rest.invariant ∙ goes_on _ c.args.names.now c.loop-rest.rest.now c.word-item.result c.in-len2-up.len_at_least c.word-item.is single

pub returns : goal.returns
returns c = c.is_empty.ensures ∙ sym (c.loop-rest.invariant ∙ ends _ c.args.names.now c.loop-rest.rest.now c.in_default.len_below)
