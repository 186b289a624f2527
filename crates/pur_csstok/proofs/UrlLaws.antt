-- A text in `url()` is read as itself, and is a value that a style can hold.
use Rattle.std.proofs.Common.{◌≡◌, ℕ, true, false, List, ◌++◌, codes, Some, refl, ap, ◌∙◌, [], ◌∷◌, append_assoc}
use Rattle.std.specs.Prelude.{not, ◌==◌}
use Rattle.std.specs.List.{list_all, prefix_len, suffix_len}
use Rattle.std.specs.Option.{option_and_then, option_map_or}
use Rattle.std.proofs.lemmas.Bool.{cond-false}
use Rattle.pur_text.specs.Trimming.{trimmed}
use Rattle.pur_csstok.specs.Ends.{between, argument_of, in_quotes}
use Rattle.pur_csstok.specs.Urls.{breaks_quotes, breaks_bare, without, argument_read, url_read, url_text}
use Rattle.pur_csstok.proofs.EndLaws.{quotes-trimmed, quotes-between, trimmed_same, harmless_before}
use Rattle.pur_laws.proofs.Firsts.{none_any}
use Rattle.pur_csstok.proofs.TextLemmas.{before-last}
use Rattle.std.proofs.lemmas.List.{reverse-append}
use Rattle.pur_text.specs.Characters.{is_space}
use Rattle.pur_csstok.specs.Cuts.{stays_whole, is_whole}
use Rattle.pur_csstok.specs.Declarations.{has_escape_or_comment, IsCleanValue}
use Rattle.pur_csstok.specs.declared.cuts.Separator.TheVariants.{Semicolon}
use Rattle.pur_csstok.proofs.CutLaws.{in_quote, quote_closes}

url_argument : (text : List ℕ) → argument_of (codes "url(") (url_text text) ≡ Some (in_quotes 0x22 text)
url_argument text = before-last 0x29 (in_quotes 0x22 text)

pub url-again : (text : List ℕ) → list_all (λ c. not (breaks_quotes 0x22 c)) text ≡ true → url_read (url_text text) ≡ Some text
unfolding url_read argument_read
url-again text all =
    let other = option_map_or (without (breaks_quotes 0x27)) (between 0x27 (in_quotes 0x22 text)) (without breaks_bare (in_quotes 0x22 text)) in
    ap (option_and_then (λ argument. argument_read (trimmed argument))) (url_argument text)
    ∙ ap argument_read (quotes-trimmed 0x22 text refl)
    ∙ ap (λ o. option_map_or (without (breaks_quotes 0x22)) o other) (quotes-between 0x22 text refl)
    ∙ cond-false _ _ _ (none_any (breaks_quotes 0x22) text all)

-- ---- and is a value that a style can hold

url-whole : (text : List ℕ) → list_all (λ c. not (c == 0x22)) text ≡ true → is_whole Semicolon (url_text text) ≡ true
unfolding stays_whole
url-whole text all =
    ap (stays_whole Semicolon (in_quote 0x22 1)) (append_assoc text (0x22 ∷ []) (codes ")")) ∙ quote_closes Semicolon 0x22 1 text (codes ")") all

url-end : (text : List ℕ) → suffix_len is_space (url_text text) ≡ 0
url-end text = ap (prefix_len is_space) (reverse-append (codes "url(" ++ in_quotes 0x22 text) (codes ")"))

url-harmless : (text : List ℕ) → has_escape_or_comment text ≡ false → has_escape_or_comment (url_text text) ≡ false
unfolding has_escape_or_comment
url-harmless text plain =
    ap has_escape_or_comment (append_assoc text (0x22 ∷ []) (codes ")")) ∙ harmless_before text (0x22 ∷ codes ")") refl plain refl

pub url-clean : (text : List ℕ) → list_all (λ c. not (c == 0x22)) text ≡ true → has_escape_or_comment text ≡ false → IsCleanValue (url_text text)
url-clean text all plain = record {
  whole = url-whole text all;
  trim = trimmed_same (url_text text) refl (url-end text);
  plain = url-harmless text plain;
}
