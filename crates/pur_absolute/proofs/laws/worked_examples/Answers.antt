use Rattle.std.proofs.Common.{refl}
use Rattle.std.specs.Fmt.{digits}
use Rattle.pur_text.specs.Hosts.{group_count, is_host}
use Rattle.pur_text.specs.Trimming.{trimmed}
use Rattle.pur_names.specs.Attributes.{attr_named}
use Rattle.pur_names.specs.Schemes.{scheme_named}
use Rattle.pur_csstok.specs.Cuts.{pieces_from, stays_whole}
use Rattle.pur_csstok.specs.Declarations.{has_escape_or_comment, declaration_of}
use Rattle.pur_csstok.specs.Urls.{argument_read, url_read}
use Rattle.pur_uri.specs.Authorities.{host_len, host_of, port_value, is_port, port_of, is_authority}
use Rattle.pur_uri.specs.Escapes.{stays_in_path, stays_in_query, normalised}
use Rattle.pur_uri.specs.Laws.{has_comment}
use Rattle.pur_uri.specs.Splitting.{tidied, has_scheme, scheme_part, behind_scheme, has_authority, authority_part, behind_authority, query_part, behind_query, fragment_part, parts_of}
use Rattle.pur_uri.specs.Uris.{fits, has_reading, reading_of, uri_of_parts, uri_of, uri_text}
use Rattle.pur_resolve.specs.Dots.{path_of, settled_with, settled, without_dots}
use Rattle.pur_resolve.specs.Resolving.{resolved}
use Rattle.pur_absolute.specs.Absolute.{absolute_uri, url_in, absolute_declared, absolute_style, absolute_value, is_required}
use Rattle.pur_absolute.proofs.laws.worked_examples.Goals as goal

pub returns : goal.returns
unfolding lib.Utf8.encode attr_named absolute_uri url_in absolute_declared absolute_style absolute_value is_required digits trimmed group_count is_host scheme_named pieces_from stays_whole has_escape_or_comment declaration_of argument_read url_read host_len host_of port_value is_port port_of is_authority stays_in_path stays_in_query normalised has_comment tidied has_scheme scheme_part behind_scheme has_authority authority_part behind_authority query_part behind_query fragment_part parts_of fits has_reading reading_of uri_of_parts uri_of uri_text path_of settled_with settled without_dots resolved
returns c = record { links = refl; urls = refl; comments = refl; pictures = refl; targets = refl; texts = refl }
