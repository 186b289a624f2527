use Rattle.std.proofs.Common.{refl}
use Rattle.std.specs.Fmt.{digits}
use Rattle.pur_text.specs.Hosts.{group_count, is_host}
use Rattle.pur_text.specs.Trimming.{trimmed}
use Rattle.pur_names.specs.Attributes.{attr_named}
use Rattle.pur_names.specs.Properties.{prop_named}
use Rattle.pur_names.specs.Schemes.{scheme_named}
use Rattle.pur_modules.specs.AttributeLists.{attributes_of}
use Rattle.pur_csstok.specs.Colors.{hash_read, color_named, parts_read, rgb_read, color_read}
use Rattle.pur_csstok.specs.Cuts.{pieces_from, stays_whole}
use Rattle.pur_csstok.specs.Declarations.{has_escape_or_comment, declaration_of}
use Rattle.pur_cssprops.specs.Forms.{word_read, form_read, value_read}
use Rattle.pur_cssprops.specs.Keywords.{keyword_read}
use Rattle.pur_cssprops.specs.Styles.{property_read, declaration_kept, firsts, last_value, each_once, style_written, style_read}
use Rattle.pur_uri.specs.Authorities.{host_len, host_of, port_value, is_port, port_of, is_authority}
use Rattle.pur_uri.specs.Escapes.{stays_in_path, stays_in_query, normalised}
use Rattle.pur_uri.specs.Splitting.{tidied, has_scheme, scheme_part, behind_scheme, has_authority, authority_part, behind_authority, query_part, behind_query, fragment_part, parts_of}
use Rattle.pur_uri.specs.Uris.{fits, has_reading, reading_of, uri_of_parts, uri_of, uri_text}
use Rattle.pur_uripolicy.specs.HostRules.{is_under, admits_host, admits}
use Rattle.pur_uripolicy.specs.Admissible.{is_fit, uri_under}
use Rattle.pur_values.specs.Kinds.{kind_of, is_declared}
use Rattle.pur_values.specs.Numbers.{numeral}
use Rattle.pur_values.specs.Tokens.{distinct}
use Rattle.pur_values.specs.Values.{value_of}
use Rattle.pur_validity.proofs.laws.attribute_examples.Goals as goal

pub returns : goal.returns
unfolding lib.Utf8.encode digits trimmed attr_named attributes_of kind_of is_declared distinct value_of group_count is_host prop_named scheme_named hash_read color_named parts_read rgb_read color_read pieces_from stays_whole has_escape_or_comment declaration_of word_read form_read value_read keyword_read property_read declaration_kept firsts last_value each_once style_written style_read host_len host_of port_value is_port port_of is_authority stays_in_path stays_in_query normalised tidied has_scheme scheme_part behind_scheme has_authority authority_part behind_authority query_part behind_query fragment_part parts_of fits has_reading reading_of uri_of_parts uri_of uri_text is_fit is_under admits_host admits uri_under numeral
returns c = record {
  declared = record { valid = refl; other = refl };
  listed = record { valid = refl; other = refl };
  values = record { valid = refl; other = refl };
  required = record { valid = refl; other = refl };
  languages = record { valid = refl; other = refl };
  setting = record { valid = refl; other = refl };
  prefix = record { valid = refl; other = refl };
  distinct = record { valid = refl; other = refl };
  links = record { valid = refl; other = refl };
  pictures = record { valid = refl; other = refl };
  sources = record { valid = refl; other = refl };
  styles = record { valid = refl; other = refl };
  actions = record { valid = refl; other = refl };
  fields = record { valid = refl; other = refl };
}
