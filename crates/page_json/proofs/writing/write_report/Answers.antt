use Rattle.std.proofs.Common.{◌++◌, sym, ap, subst, ◌∙◌}
use Rattle.std.specs.Str.{IsUtf8}
use Rattle.json.specs.Lex.{tokens}
use Rattle.json.specs.Print.{print}
use Rattle.serde_json.proofs.Texts.{print-outline}
use Rattle.page_json.specs.PageValues.{page_value}
use Rattle.page_json.specs.WrittenPages.{page_texts}
use Rattle.page_json.specs.internal.WrittenTokens.{value_tokens}
use Rattle.page_json.proofs.TokenLemmas.{written_is_read}
use Rattle.page_json.proofs.WrittenLemmas.{written_of_page}
use Rattle.page_json.proofs.writing.write_report.Goals as goal

pub returns-clause-text : goal.returns-clause-text
returns-clause-text c =
    let value = page_value (page_texts c.args.page.now) in
    let written = c.in_ok-write_page.ensures.tokens in
    let no_text_before = written.before_is ∙ c.new-out.ensures.before ∙ c.new.ensures.items in
    let all_tokens = written.tokens_are
    ∙ ap (λ ts. ts ++ value_tokens value) c.new-out.ensures.tokens in
    c.into_inner.ensures.items
    ∙ ap (λ before. before ++ print c.write_page.new.out.tokens) no_text_before
    ∙ ap print all_tokens
    ∙ print-outline value

pub returns-clause-read_back : goal.returns-clause-read_back
returns-clause-read_back c = λ reportable.
    let texts = page_texts c.args.page.now in
    let written = c.in_ok-write_page.ensures.tokens in
    let no_text_before = written.before_is ∙ c.new-out.ensures.before ∙ c.new.ensures.items in
    let all_tokens = written.tokens_are ∙ ap (λ ts. ts ++ value_tokens (page_value texts))
    c.new-out.ensures.tokens in
    let printed = c.into_inner.ensures.items
    ∙ ap (λ before. before ++ print c.write_page.new.out.tokens) no_text_before in
    record {
      value = page_value texts;
      json = record {
        utf8 = subst IsUtf8 (sym printed) c.into_inner.ensures.utf8;
        parsed = written_is_read c.args.page.now c.into_inner.result.items reportable
            (ap tokens printed ∙ c.into_inner.ensures.reads_back ∙ all_tokens);
      };
      page_of = written_of_page c.args.page.now reportable c.in_ok-write_page.ensures.cards;
    }
