-- The fields of settings, each by its two spellings.
use Rattle.proto_json.specs.Fields.{Name, spelled}
use Rattle.quota_settings_json.specs.declared.field_names.TheConstants as spellings

abbrev pub domain : Name
domain = spelled spellings.DOMAIN

abbrev pub buckets : Name
buckets = spelled spellings.BUCKETS

abbrev pub matches : Name
matches = spelled spellings.MATCHES

-- a bucket's builder, and the builder's own field of the same name
abbrev pub bucket_id_builder : Name
bucket_id_builder = spelled spellings.BUCKET_ID_BUILDER

abbrev pub reporting_interval : Name
reporting_interval = spelled spellings.REPORTING_INTERVAL

abbrev pub no_assignment_behavior : Name
no_assignment_behavior = spelled spellings.NO_ASSIGNMENT_BEHAVIOR

abbrev pub expired_assignment_behavior : Name
expired_assignment_behavior = spelled spellings.EXPIRED_ASSIGNMENT_BEHAVIOR

abbrev pub string_value : Name
string_value = spelled spellings.STRING_VALUE

abbrev pub attribute : Name
attribute = spelled spellings.ATTRIBUTE

abbrev pub fallback_rate_limit : Name
fallback_rate_limit = spelled spellings.FALLBACK_RATE_LIMIT

abbrev pub expired_timeout : Name
expired_timeout = spelled spellings.EXPIRED_TIMEOUT

abbrev pub reuse_last_assignment : Name
reuse_last_assignment = spelled spellings.REUSE_LAST_ASSIGNMENT

abbrev pub blanket_rule : Name
blanket_rule = spelled spellings.BLANKET_RULE

-- a strategy's limit, and the limit's own field of the same name
abbrev pub requests_per_time_unit : Name
requests_per_time_unit = spelled spellings.REQUESTS_PER_TIME_UNIT

abbrev pub token_bucket : Name
token_bucket = spelled spellings.TOKEN_BUCKET

abbrev pub time_unit : Name
time_unit = spelled spellings.TIME_UNIT

abbrev pub max_tokens : Name
max_tokens = spelled spellings.MAX_TOKENS

abbrev pub tokens_per_fill : Name
tokens_per_fill = spelled spellings.TOKENS_PER_FILL

abbrev pub fill_interval : Name
fill_interval = spelled spellings.FILL_INTERVAL
