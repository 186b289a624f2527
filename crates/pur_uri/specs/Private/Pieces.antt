-- The parts of a URI, as somebody else keeps them.
use Rattle.pur_uri.specs.declared.uri.Pieces.{Pieces}
use Rattle.pur_uri.specs.Images.{part_of}
use Rattle.pur_uri.specs.Uris.{PlainUri}

abbrev pub plain_pieces : Pieces → PlainUri
plain_pieces p = record {
  scheme = p.scheme;
  host = part_of p.host;
  port = p.port;
  path = p.path.now;
  query = part_of p.query;
  fragment = part_of p.fragment;
}
