-- The fields of pools and of reports, each by its two spellings.
use Rattle.proto_json.specs.Fields.{Name, spelled}
use Rattle.quota_pools.specs.declared.field_names.TheConstants as spellings

abbrev pub domain : Name
domain = spelled spellings.DOMAIN

abbrev pub pools : Name
pools = spelled spellings.POOLS

abbrev pub requests_per_time_unit : Name
requests_per_time_unit = spelled spellings.REQUESTS_PER_TIME_UNIT

abbrev pub time_unit : Name
time_unit = spelled spellings.TIME_UNIT

abbrev pub assignment_time_to_live : Name
assignment_time_to_live = spelled spellings.ASSIGNMENT_TIME_TO_LIVE

abbrev pub at : Name
at = spelled spellings.AT

abbrev pub client : Name
client = spelled spellings.CLIENT

abbrev pub reports : Name
reports = spelled spellings.REPORTS

abbrev pub bucket_quota_usages : Name
bucket_quota_usages = spelled spellings.BUCKET_QUOTA_USAGES

abbrev pub time_elapsed : Name
time_elapsed = spelled spellings.TIME_ELAPSED

abbrev pub num_requests_allowed : Name
num_requests_allowed = spelled spellings.NUM_REQUESTS_ALLOWED

abbrev pub num_requests_denied : Name
num_requests_denied = spelled spellings.NUM_REQUESTS_DENIED
