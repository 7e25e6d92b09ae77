-- The fields of a request, each by its two spellings.
use Rattle.proto_json.specs.Fields.{Name, spelled}
use Rattle.reply_text.specs.declared.field_names.TheConstants as spellings

abbrev pub domain : Name
domain = spelled spellings.DOMAIN

abbrev pub descriptors : Name
descriptors = spelled spellings.DESCRIPTORS

abbrev pub hits_addend : Name
hits_addend = spelled spellings.HITS_ADDEND

abbrev pub entries : Name
entries = spelled spellings.ENTRIES

abbrev pub limit : Name
limit = spelled spellings.LIMIT

abbrev pub key : Name
key = spelled spellings.KEY

abbrev pub value : Name
value = spelled spellings.VALUE

abbrev pub requests_per_unit : Name
requests_per_unit = spelled spellings.REQUESTS_PER_UNIT

abbrev pub unit : Name
unit = spelled spellings.UNIT
